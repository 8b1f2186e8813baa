-- Facts on lists and on values that may be missing, whatever they hold. They say nothing of this crate: the proofs of
-- several crates use them.
use Rattle.std.proofs.Common.{◌≡◌, ℕ, zero, suc, ◌+◌, ◌<◌, ◌≤◌, Bool, true, false, cond, Option, Some, None, List, []}
use Rattle.std.proofs.Common.{◌∷◌, ◌++◌, length, drop, get_or, slice_get, ◌⊎◌, inl, inr, refl, sym, ap, subst, ◌∙◌}
use Rattle.std.proofs.Common.{arith}
use Rattle.std.specs.Prelude.{Contains, IsTrue, ◌↔◌}
use Rattle.std.specs.List.{All, AllZip, filter_map, cons_option}
use Rattle.std.specs.Option.{IsSomeAnd}
use Rattle.std.proofs.Math.Nat.{eq-or-lt_of_le}
use Rattle.std.proofs.Math.Seq.{drop-append_seam}
use Rattle.std.proofs.lemmas.List.{drop-drop}
use Rattle.std.proofs.lemmas.List.Elements.{All-head, All-tail}

-- ---- what a list contains

-- a list contains its first element
pub Contains-first : {X : Type 0} (x : X) (xs : List X) → Contains (x ∷ xs) x
Contains-first x xs = (0, omega arith, refl)

-- what the rest of a list contains, the list contains
pub Contains-later : {X : Type 0} (x : X) (xs : List X) (n : X) → Contains xs n → Contains (x ∷ xs) n
Contains-later x xs n (k, within, is) = (suc k, omega arith, is)

-- what a list contains is its first element or in the rest
pub Contains-cases : {X : Type 0} (x : X) (xs : List X) (n : X) → Contains (x ∷ xs) n → (x ≡ n) ⊎ Contains xs n
Contains-cases x xs n (zero, within, is) = inl is
Contains-cases x xs n (suc k, within, is) = inr (k, omega arith, is)

-- the empty list contains nothing
pub nothing_in_nil : {X : Type 0} (n : X) → ¬ Contains (let none : List X = [] in none) n
nothing_in_nil n has = omega (arith, has.1)

-- a list that contains nothing is empty
pub nil_from_none : {X : Type 0} (xs : List X) → ((x : X) → ¬ Contains xs x) → xs ≡ []
nil_from_none [] none = refl
nil_from_none (x ∷ xs) none = absurd (none x (Contains-first x xs))

-- ---- what is given of the elements of a list

-- some element gives it
pub record Given {X Y : Type 0} (h : X → Option Y) (xs : List X) (y : Y) : Type 0 where
  pub element : X
  pub among : Contains xs element
  pub gives : h element ≡ Some y

one_given : {X Y : Type 0} (h : X → Option Y) (x : X) (xs : List X) (y : Y) (o : Option Y) → h x ≡ o
    → (Contains (filter_map h xs) y → Given h xs y) → Contains (cons_option o (filter_map h xs)) y
    → Given h (x ∷ xs) y
one_given h x xs y None is rest has =
    let later = rest has in
    record { element = later.element; among = Contains-later x xs later.element later.among; gives = later.gives }
one_given h x xs y (Some z) is rest has =
    elim (Contains-cases z (filter_map h xs) y has) [
      | inl same ↦ record { element = x; among = Contains-first x xs; gives = is ∙ ap Some same }
      | inr behind ↦
          let later = rest behind in
          record { element = later.element; among = Contains-later x xs later.element later.among; gives = later.gives }
    ]

pub Given-filter_map : {X Y : Type 0} (h : X → Option Y) (xs : List X) (y : Y) → Contains (filter_map h xs) y
    → Given h xs y
Given-filter_map h [] y has = absurd (omega (arith, has.1))
Given-filter_map h (x ∷ xs) y has = one_given h x xs y (h x) refl (Given-filter_map h xs y) has

Contains-cons_option : {Y : Type 0} (o : Option Y) (ys : List Y) (y : Y) → Contains ys y → Contains (cons_option o ys) y
Contains-cons_option None ys y has = has
Contains-cons_option (Some z) ys y has = Contains-later z ys y has

-- what an element gives is there
pub Contains-filter_map : {X Y : Type 0} (h : X → Option Y) (xs : List X) (x : X) (y : Y) → Contains xs x
    → h x ≡ Some y → Contains (filter_map h xs) y
Contains-filter_map h [] x y has is = absurd (omega (arith, has.1))
Contains-filter_map {X} {Y} h (z ∷ zs) x y has is =
    elim (Contains-cases z zs x has) [
      | inl same ↦
          subst (λ (o : Option Y). Contains (cons_option o (filter_map h zs)) y) (sym (ap h same ∙ is))
          (Contains-first y (filter_map h zs))
      | inr later ↦ Contains-cons_option (h z) (filter_map h zs) y (Contains-filter_map h zs x y later is)
    ]

-- no more are given than there are
pub length-filter_map : {X Y : Type 0} (h : X → Option Y) (xs : List X) → length (filter_map h xs) ≤ length xs
length-filter_map h [] = omega arith
length-filter_map {X} {Y} h (x ∷ xs) = by_option (h x) (length-filter_map h xs)
  where
    by_option : (o : Option Y) → length (filter_map h xs) ≤ length xs
        → length (cons_option o (filter_map h xs)) ≤ suc (length xs)
    by_option None le = omega arith
    by_option (Some y) le = omega arith

-- ---- a value that is there

-- the value and what holds of it
pub record Found {X : Type 0} (o : Option X) (P : X → Type 0) : Type 0 where
  pub value : X
  pub is : o ≡ Some value
  pub holds : P value

-- what holds of some value says which value is there
pub Found-from : {X : Type 0} (o : Option X) (P : X → Type 0) → IsSomeAnd o P → Found o P
Found-from None P some = absurd some
Found-from (Some x) P some = record { value = x; is = refl; holds = some }

-- and the other way round
pub IsSomeAnd-found : {X : Type 0} (o : Option X) (P : X → Type 0) (x : X) → o ≡ Some x → P x → IsSomeAnd o P
IsSomeAnd-found {X} o P x is holds = subst (λ (p : Option X). IsSomeAnd p P) (sym is) holds

-- a choice that has a value took its first branch
pub chosen : {X : Type 0} (b : Bool) (v w : X) → cond b (Some v) None ≡ Some w → (b ≡ true) × (v ≡ w)
chosen true v w h = (refl, cc)
chosen false v w h = absurd (cc)

-- ---- what stands at a place

-- each place of a list has a value
pub Found-at : {X : Type 0} (xs : List X) (i : ℕ) → i < length xs → Found (slice_get xs i) (λ x. Unit {0})
Found-at [] i lt = absurd (omega arith)
Found-at (x ∷ xs) zero lt = record { value = x; is = refl; holds = tt }
Found-at (x ∷ xs) (suc i) lt = Found-at xs i (omega arith)

-- where something holds of the value at a place, the place is in the list
pub within_from_IsSomeAnd : {X : Type 0} (xs : List X) (P : X → Type 0) (i : ℕ) → IsSomeAnd (slice_get xs i) P
    → i < length xs
within_from_IsSomeAnd [] P i some = absurd some
within_from_IsSomeAnd (x ∷ xs) P zero some = omega arith
within_from_IsSomeAnd (x ∷ xs) P (suc i) some = let lt = within_from_IsSomeAnd xs P i some in omega arith

-- what holds of all values holds of the one at a place
pub All-at : {X : Type 0} (P : X → Type 0) (xs : List X) (i : ℕ) (x : X) → All P xs → slice_get xs i ≡ Some x → P x
All-at P [] i x all is = absurd (cc)
All-at P (y ∷ xs) zero x all is = let same : y ≡ x = cc in subst P same (All-head P y xs all)
All-at P (y ∷ xs) (suc i) x all is = All-at P xs i x (All-tail P y xs all) is

-- what holds of two lists, place by place, holds at each place
pub AllZip-at : {A B : Type 0} (R : A → B → Type 0) (xs : List A) (ys : List B) (k : ℕ) (d : A) (e : B) → AllZip R xs ys
    → k < length xs → R (get_or xs k d) (get_or ys k e)
AllZip-at R [] ys k d e all lt = absurd (omega (arith, lt))
AllZip-at R (x ∷ xs) [] k d e all lt = absurd all
AllZip-at R (x ∷ xs) (y ∷ ys) zero d e all lt = all.0
AllZip-at R (x ∷ xs) (y ∷ ys) (suc k) d e all lt = AllZip-at R xs ys k d e all.1 (omega (arith, lt))

-- ---- a test that a list has something

-- a list with an element isn't empty
pub not_nil : {X : Type 0} (xs : List X) (x : X) (ys : List X) → xs ++ x ∷ ys ≡ [] → ⊥
not_nil [] x ys e = cc
not_nil (y ∷ xs) x ys e = cc

-- where the test says no, the list is empty
pub none_there : {X : Type 0} (xs : List X) (some : Bool) → (IsTrue some ↔ (0 < length xs)) → some ≡ false → xs ≡ []
none_there [] some h is = refl
none_there (x ∷ xs) some h is = let yes' : some ≡ true = h.1 (omega arith) in absurd (cc)

-- where it says yes, the list has a first element
pub some_there : {X : Type 0} (xs : List X) (some : Bool) → (IsTrue some ↔ (0 < length xs)) → some ≡ true
    → (x : X) × (rest : List X) × (xs ≡ x ∷ rest)
some_there [] some h is = absurd (omega (arith, h.0 is))
some_there (x ∷ xs) some h is = (x, xs, refl)

-- ---- numbers below a count

-- a number that is below one more is below, or it is the last
pub below_or_last : (k n : ℕ) → k < n + 1 → (k < n) ⊎ (k ≡ n)
below_or_last k n lt =
    let le : k ≤ n = omega arith in
    elim (eq-or-lt_of_le le) [ inl same ↦ inr same | inr below ↦ inl below ]

-- ---- parts of a list

-- what stands behind a piece that stands at a place
pub drop-behind : {X : Type 0} (all : List X) (at : ℕ) (xs ys : List X) → drop at all ≡ xs ++ ys
    → drop (at + length xs) all ≡ ys
drop-behind {X} all at xs ys e =
    sym (drop-drop (length xs) at all) ∙ (ap (λ (zs : List X). drop (length xs) zs) e ∙ drop-append_seam xs ys)

-- a list that is parted at two elements: the second lies behind the first, at it, or before it
pub parted : {X : Type 0} (xs ys : List X) (x : X) (us vs : List X) (u : X) → xs ++ x ∷ ys ≡ us ++ u ∷ vs
    → ((mid : List X) × (us ≡ xs ++ x ∷ mid) × (ys ≡ mid ++ u ∷ vs)) ⊎ ((xs ≡ us) × (x ≡ u) × (ys ≡ vs))
    ⊎ ((mid : List X) × (xs ≡ us ++ u ∷ mid) × (vs ≡ mid ++ x ∷ ys))
parted [] ys x [] vs u e = inr (inl (refl, cc, cc))
parted {X} [] ys x (w ∷ us) vs u e = inl (us, (let same : w ≡ x = cc in ap (λ (y : X). y ∷ us) same), cc)
parted {X} (w ∷ xs) ys x [] vs u e = inr (inr (xs, (let same : w ≡ u = cc in ap (λ (y : X). y ∷ xs) same), cc))
parted {X} (z ∷ xs) ys x (w ∷ us) vs u e =
    let same : z ≡ w = cc in
    let rest : xs ++ x ∷ ys ≡ us ++ u ∷ vs = cc in
    elim (parted xs ys x us vs u rest) [
      | inl h ↦ inl (h.0, ap (λ (zs : List X). w ∷ zs) h.1 ∙ ap (λ (y : X). y ∷ (xs ++ x ∷ h.0)) (sym same), h.2)
      | inr h ↦ elim h [
        | inl g ↦ inr (inl (ap (λ (zs : List X). z ∷ zs) g.0 ∙ ap (λ (y : X). y ∷ us) same, g.1, g.2))
        | inr g ↦ inr (inr (g.0, ap (λ (zs : List X). z ∷ zs) g.1 ∙ ap (λ (y : X). y ∷ (us ++ u ∷ g.0)) same, g.2))
      ]
    ]
