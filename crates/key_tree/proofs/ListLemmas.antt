-- Facts on lists, whatever they hold: elements that differ pairwise, and how many they are.
use Rattle.std.proofs.Common.{◌≡◌, ℕ, zero, suc, ◌<◌, ◌≤◌, List, [], ◌∷◌, ◌++◌, length, get_or, refl, sym}
use Rattle.std.proofs.Common.{ap, subst, ◌∙◌, ◌==◌, ◌≢◌, ◌+◌, ◌-◌, take, drop, inl, inr, arith}
use Rattle.std.proofs.lemmas.Bool.{cases_lt, cases_eq}
use Rattle.std.proofs.lemmas.List.Edits.{length-insert, get_or-insert_at, get_or-insert_below, get_or-insert_above}
use Rattle.std.specs.List.{All, AllPairs, IsDistinct, Contains}
use Rattle.std.proofs.lemmas.Bool.Decides.{Decides-eqb}
use Rattle.std.proofs.lemmas.List.{get_or_default}
use Rattle.std.proofs.lemmas.List.Elements.{All-append, All-cons, All-contains, All-head, All-tail}
use Rattle.std.proofs.lemmas.List.Kept.{AllPairs-cons}
use Rattle.std.proofs.lemmas.Map.Made.{AllPairs-from_IsDistinct, IsDistinct-from_AllPairs}
use Rattle.std.proofs.lemmas.Map.Steps.{length-le_from_distinct_below}
use Rattle.std.proofs.lemmas.Map.Views.{Contains-from_any}

-- what holds of each pair of the rest
AllPairs-tail : {X : Type 0} (R : X → X → Type 0) (x : X) (xs : List X) → AllPairs R (x ∷ xs) → AllPairs R xs
AllPairs-tail R x xs pairs i j d before within = pairs (suc i) (suc j) d (omega arith) (omega arith)

-- and of the first element with each of the rest
AllPairs-first : {X : Type 0} (R : X → X → Type 0) (x : X) (xs : List X) → AllPairs R (x ∷ xs) → All (R x) xs
AllPairs-first R x xs pairs k d within = pairs zero (suc k) d (omega arith) (omega arith)

-- of two lists joined, where it holds across too
pub AllPairs-append : {X : Type 0} (R : X → X → Type 0) (xs ys : List X) → AllPairs R xs → AllPairs R ys
    → All (λ x. All (R x) ys) xs → AllPairs R (xs ++ ys)
AllPairs-append R [] ys these those across = those
AllPairs-append {X} R (x ∷ xs) ys these those across =
    AllPairs-cons R x (xs ++ ys)
    (All-append (R x) xs ys (AllPairs-first R x xs these) (All-head (λ (y : X). All (R y) ys) x xs across))
    (AllPairs-append R xs ys (AllPairs-tail R x xs these) those (All-tail (λ (y : X). All (R y) ys) x xs across))

-- what holds of all elements and of one more holds of all where that one is put among them
pub All-put : {X : Type 0} (P : X → Type 0) (xs : List X) (at : ℕ) (x : X) → at ≤ length xs → All P xs → P x
    → All P (take at xs ++ x ∷ drop at xs)
All-put P xs at x within all one k d lt = elim (cases_lt k at) [
  | inl before ↦ subst P (sym (get_or-insert_below xs at x d k before within)) (all k d (omega (arith, before, within)))
  | inr upto ↦ elim (cases_eq k at) [
    | inl same ↦ subst (λ (i : ℕ). P (get_or (take at xs ++ x ∷ drop at xs) i d)) (sym same)
        (subst P (sym (get_or-insert_at xs at x d within)) one)
    | inr other ↦
        let e : k - 1 + 1 ≡ k = omega arith in
        subst (λ (i : ℕ). P (get_or (take at xs ++ x ∷ drop at xs) i d)) e
        (subst P (sym (get_or-insert_above xs at x d (k - 1) (omega arith) within))
        (all (k - 1) d (omega (arith, length-insert xs at x within, lt))))
  ]
]

-- numbers that differ, joined with numbers that differ from them and from one another
pub distinct-append : (xs ys : List ℕ) → IsDistinct ◌==◌ xs → IsDistinct ◌==◌ ys → All (λ x. All (λ y. x ≢ y) ys) xs
    → IsDistinct ◌==◌ (xs ++ ys)
distinct-append xs ys these those across =
    IsDistinct-from_AllPairs Decides-eqb (xs ++ ys)
    (AllPairs-append (λ (x y : ℕ). x ≢ y) xs ys (AllPairs-from_IsDistinct Decides-eqb xs these)
    (AllPairs-from_IsDistinct Decides-eqb ys those) across)

-- one number more that differs from all
pub distinct-cons : (x : ℕ) (xs : List ℕ) → All (λ y. x ≢ y) xs → IsDistinct ◌==◌ xs → IsDistinct ◌==◌ (x ∷ xs)
distinct-cons x xs other distinct =
    IsDistinct-from_AllPairs Decides-eqb (x ∷ xs)
    (AllPairs-cons (λ (x y : ℕ). x ≢ y) x xs other (AllPairs-from_IsDistinct Decides-eqb xs distinct))

-- there are at most n numbers below n
pub few_below : (xs : List ℕ) (n : ℕ) → IsDistinct ◌==◌ xs → All (λ x. x < n) xs → length xs ≤ n
few_below xs n distinct below =
    length-le_from_distinct_below xs n distinct (λ q some.
    All-contains (λ x. x < n) xs q below (Contains-from_any (λ x y e. (Decides-eqb x y).0 e) q xs some))

-- where each element of a list stands in another
record Seats {X : Type 0} (xs ys : List X) : Type 0 where
  seats : List ℕ
  sized : length seats ≡ length xs
  below : All (λ s. s < length ys) seats
  same : (k : ℕ) (c d : X) (n : ℕ) → k < length xs → get_or ys (get_or seats k n) c ≡ get_or xs k d

-- each has a seat
seated : {X : Type 0} (xs ys : List X) → All (Contains ys) xs → Seats xs ys
seated [] ys all = record {
  seats = [];
  sized = refl;
  below = λ k d within. absurd (omega (arith, within));
  same = λ k c d n within. absurd (omega (arith, within));
}
seated {X} (x ∷ xs) ys all =
    let first : Contains ys x = All-head (Contains ys) x xs all in
    let rest = seated xs ys (All-tail (Contains ys) x xs all) in
    record {
      seats = first.0 ∷ rest.seats;
      sized = ap (λ (n : ℕ). suc n) rest.sized;
      below = All-cons (λ s. s < length ys) first.0 rest.seats first.1 rest.below;
      same = same_all first.0 rest.seats
          (λ c. get_or_default ys first.0 c x first.1 ∙ first.2) rest.same;
    }
  where
    same_all : (s : ℕ) (ss : List ℕ) → ((c : X) → get_or ys s c ≡ x)
        → ((k : ℕ) (c d : X) (n : ℕ) → k < length xs → get_or ys (get_or ss k n) c ≡ get_or xs k d)
        → (k : ℕ) (c d : X) (n : ℕ) → k < suc (length xs)
        → get_or ys (get_or (s ∷ ss) k n) c ≡ get_or (x ∷ xs) k d
    same_all s ss here all zero c d n within = here c
    same_all s ss here all (suc k) c d n within = all k c d n (omega arith)

-- elements that differ and are all in another list are at most as many as it has
pub few_within : {X : Type 0} (xs ys : List X) (d : X)
    → ((i j : ℕ) → i < j → j < length xs → ¬ (get_or xs i d ≡ get_or xs j d)) → All (Contains ys) xs
    → length xs ≤ length ys
few_within {X} xs ys d apart all =
    let s = seated xs ys all in
    let differ : IsDistinct ◌==◌ s.seats = IsDistinct-from_AllPairs Decides-eqb s.seats
    (λ i j n before within e.
    let upto : j < length xs = omega (arith, s.sized) in
    apart i j before upto (sym (s.same i d d n (omega arith))
    ∙ (ap (λ (m : ℕ). get_or ys m d) e ∙ s.same j d d n upto))) in
    omega (arith, few_below s.seats (length ys) differ s.below, s.sized)
