-- The variables of a slice, each at the place that is its number: which they are, and how many.
use Rattle.std.proofs.Common.{◌≡◌, ◌≢◌, ℕ, suc, ◌<◌, ◌≤◌, ◌↔◌, ◌⊎◌, inl, inr, Bool, true, false, not, eqb, Option}
use Rattle.std.proofs.Common.{List, [], ◌∷◌, ◌++◌, length, get_or, sym, ◌∙◌, subst, arith, eqb-true}
use Rattle.std.specs.Prelude.{All, ◌==◌, if◌then◌else◌, AllPairs, Contains, IsSomeAnd}
use Rattle.std.specs.List.{IsDistinct, flat_map, slice_get}
use Rattle.std.proofs.lemmas.Bool.Decides.{nat_tests, eqb_tells}
use Rattle.std.proofs.lemmas.List.Elements.{All-contains, All-filter, All-contains_itself, All-weaker, filter_passes}
use Rattle.std.proofs.lemmas.List.Elements.{recursion_from_All, Contains-append_left, Contains-append_right}
use Rattle.std.proofs.lemmas.List.Elements.{Contains-append_cases, Contains-get_or}
use Rattle.std.proofs.lemmas.List.Kept.{AllPairs-cons, AllPairs-filter}
use Rattle.std.proofs.lemmas.Map.Steps.{length-le_from_distinct_below}
use Rattle.std.proofs.lemmas.Map.Views.{Contains-from_any}
use Rattle.lin_model.specs.Conditions.{PlainCondition, AtomNamesBelow, Fits}
use Rattle.lin_model.specs.declared.atom.Atom.{Atom}
use Rattle.lin_model.specs.Lists.{Given-filter_map, Contains-first, Contains-later, Contains-cases}
use Rattle.slicer.specs.Facts.{below_from_Names}
use Rattle.slicer.specs.Names.{atom_vars, Names}
use Rattle.slicer.specs.Slices.{PlainSlice}
use Rattle.slicer.specs.Laws.{HasNamed}
use Rattle.canoniser.specs.Numbering.{first_ones, atoms_of, order_of}
use Rattle.canoniser.specs.Keys.{IsSliceIn}
use Rattle.canoniser.proofs.GainsLemmas.{others}
use Rattle.canoniser.proofs.SliceLemmas.{IsWithin-slice}
use Rattle.canoniser.proofs.SideLemmas.{distinct-tail}

-- ---- which numbers the first ones are

-- what stays in a list that loses x
Contains-kept : (kept : Bool) (y : ℕ) (rest : List ℕ) (v : ℕ) → (y ≡ v → kept ≡ true) → (y ≡ v) ⊎ Contains rest v
    → Contains (if kept then y ∷ rest else rest) v
Contains-kept true y rest v same has =
    elim has [
      | inl first ↦ subst (Contains (y ∷ rest)) first (Contains-first y rest)
      | inr behind ↦
          Contains-later y rest v behind
    ]
Contains-kept false y rest v same has = elim has [ inl first ↦ absurd (let e = same first in cc) | inr behind ↦ behind ]

Contains-others : (x : ℕ) (xs : List ℕ) (v : ℕ) → v ≢ x → Contains xs v → Contains (others x xs) v
Contains-others x [] v other has = absurd (omega (arith, has.1))
Contains-others x (y ∷ ys) v other has =
    Contains-kept (not (y == x)) y (others x ys) v (λ e. is_kept (λ same. other (sym e ∙ same)))
    (elim (Contains-cases y ys v has) [
      | inl first ↦ inl first
      | inr behind ↦
          inr (Contains-others x ys v other behind)
    ])
  where
    is_kept : y ≢ x → not (y == x) ≡ true
    is_kept apart = grind (arith, nat_tests)

Contains-from_others : (x : ℕ) (xs : List ℕ) (v : ℕ) → Contains (others x xs) v → Contains xs v
Contains-from_others x xs v has =
    All-contains (Contains xs) (others x xs) v
    (All-filter (λ w. not (w == x)) (Contains xs) xs (All-contains_itself xs)) has

-- the same numbers
pub Contains-first_ones : (numbers : List ℕ) (v : ℕ) → Contains (first_ones numbers) v ↔ Contains numbers v
Contains-first_ones [] v = (λ has. has, λ has. has)
Contains-first_ones (x ∷ numbers) v =
    let rest = Contains-first_ones numbers v in (
      λ has. elim (Contains-cases x (others x (first_ones numbers)) v has) [
        | inl first ↦ subst (Contains (x ∷ numbers)) first (Contains-first x numbers)
        | inr behind ↦ Contains-later x numbers v (rest.0 (Contains-from_others x (first_ones numbers) v behind))
      ],
      λ has. elim (Contains-cases x numbers v has) [
        | inl first ↦ subst (Contains (x ∷ others x (first_ones numbers))) first
            (Contains-first x (others x (first_ones numbers)))
        | inr behind ↦ elim (eqb_tells v x) [
          | inl same ↦ subst (Contains (x ∷ others x (first_ones numbers))) (sym same.1)
              (Contains-first x (others x (first_ones numbers)))
          | inr other ↦ Contains-later x (others x (first_ones numbers)) v
              (Contains-others x (first_ones numbers) v other.1 (rest.1 behind))
        ]
      ],
    )

-- each once
pub first_ones-distinct : (numbers : List ℕ) → AllPairs ◌≢◌ (first_ones numbers)
first_ones-distinct [] = λ i j d before within. absurd (omega (arith, within))
first_ones-distinct (x ∷ numbers) =
    let rest = first_ones numbers in
    AllPairs-cons ◌≢◌ x (others x rest)
    (All-weaker (λ w. not (w == x) ≡ true) (λ w. x ≢ w) differs (others x rest)
    (filter_passes (λ w. not (w == x)) rest))
    (AllPairs-filter ◌≢◌ (λ w. not (w == x)) rest (first_ones-distinct numbers))
  where
    differs : (w : ℕ) → not (w == x) ≡ true → x ≢ w
    differs w other same = grind (arith, nat_tests)

IsDistinct-from_pairs : (xs : List ℕ) → AllPairs ◌≢◌ xs → IsDistinct eqb xs
unfolding IsDistinct
IsDistinct-from_pairs [] distinct = tt
IsDistinct-from_pairs (x ∷ xs) distinct = (
  recursion_from_All (λ y. eqb x y ≡ false) xs
      (λ k d within. unequal x (get_or xs k d) (distinct 0 (suc k) d (omega arith) (omega arith))),
  IsDistinct-from_pairs xs (distinct-tail x xs distinct),
)
  where
    unequal : (a b : ℕ) → a ≢ b → eqb a b ≡ false
    unequal a b apart = grind (arith, nat_tests)

-- distinct numbers below n are at most n
pub few_distinct : (xs : List ℕ) (n : ℕ) → AllPairs ◌≢◌ xs → ((v : ℕ) → Contains xs v → v < n) → length xs ≤ n
few_distinct xs n distinct below =
    length-le_from_distinct_below xs n (IsDistinct-from_pairs xs distinct)
    (λ v found. below v (Contains-from_any eqb-true v xs found))

-- ---- the order of a slice's variables

pub order_of-distinct : (c : PlainCondition) (s : PlainSlice) → AllPairs ◌≢◌ (order_of c s)
order_of-distinct c s = first_ones-distinct (flat_map atom_vars (atoms_of c s) ++ s.vars)

pub Contains-flat_map : {X A : Type 0} (f : X → List A) (xs : List X) (x : X) (a : A) → Contains xs x → Contains (f x) a
    → Contains (flat_map f xs) a
Contains-flat_map f [] x a in_xs in_f = absurd (omega (arith, in_xs.1))
Contains-flat_map {X} {A} f (y ∷ ys) x a in_xs in_f =
    elim (Contains-cases y ys x in_xs) [
      | inl same ↦ Contains-append_left (f y) (flat_map f ys) a (subst (λ (z : X). Contains (f z) a) (sym same) in_f)
      | inr behind ↦ Contains-append_right (f y) (flat_map f ys) a (Contains-flat_map f ys x a behind in_f)
    ]

-- some element's piece has it
pub record Source {X A : Type 0} (f : X → List A) (xs : List X) (a : A) : Type 0 where
  pub element : X
  pub among : Contains xs element
  pub piece : Contains (f element) a

pub Source-flat_map : {X A : Type 0} (f : X → List A) (xs : List X) (a : A) → Contains (flat_map f xs) a → Source f xs a
Source-flat_map f [] a has = absurd (omega (arith, has.1))
Source-flat_map f (y ∷ ys) a has =
    elim (Contains-append_cases (f y) (flat_map f ys) a has) [
      | inl here ↦ record { element = y; among = Contains-first y ys; piece = here }
      | inr later ↦ let rest = Source-flat_map f ys a later in record {
        element = rest.element;
        among =
            Contains-later y ys rest.element rest.among;
        piece = rest.piece;
      }
    ]

-- the order has each variable that an atom of the slice names
pub order_of-names : (c : PlainCondition) (s : PlainSlice) (atom : Atom) → Contains (atoms_of c s) atom → (v : ℕ)
    → Names atom v → Contains (order_of c s) v
order_of-names c s atom among v names =
    (Contains-first_ones (flat_map atom_vars (atoms_of c s) ++ s.vars) v).1
    (Contains-append_left (flat_map atom_vars (atoms_of c s)) s.vars v
    (Contains-flat_map atom_vars (atoms_of c s) atom v among names))

-- and each variable of the slice
pub order_of-vars : (c : PlainCondition) (s : PlainSlice) → HasNamed c s → (v : ℕ)
    → Contains (order_of c s) v ↔ Contains s.vars v
order_of-vars c s named v =
    let all = flat_map atom_vars (atoms_of c s) in
    let firsts = Contains-first_ones (all ++ s.vars) v in (
      λ has. elim (Contains-append_cases all s.vars v (firsts.0 has)) [
        | inl by_atom ↦
            let source = Source-flat_map atom_vars (atoms_of c s) v by_atom in
            let number = Given-filter_map (λ j. slice_get c.atoms j) s.atoms source.element source.among in
            named number.element v number.among
            (subst (λ (o : Option Atom). IsSomeAnd o (λ a. Names a v)) (sym number.gives) source.piece)
        | inr by_slice ↦ by_slice
      ],
      λ has. firsts.1 (Contains-append_right all s.vars v has),
    )

-- ---- how many they are

pub order_of-below : (c : PlainCondition) (s : PlainSlice) → HasNamed c s → IsSliceIn c s → (v : ℕ)
    → Contains (order_of c s) v → v < length c.vars
order_of-below c s named slice v has = (IsWithin-slice c s slice).vars v ((order_of-vars c s named v).0 has)

pub order_of-few : (c : PlainCondition) (s : PlainSlice) → Fits c.vars c.atoms → HasNamed c s → IsSliceIn c s
    → length (order_of c s) ≤ 64
order_of-few c s fits named slice =
    omega (
      arith,
      few_distinct (order_of c s) (length c.vars) (order_of-distinct c s) (order_of-below c s named slice),
      fits.few_vars,
    )

-- ---- the order of one atom alone

-- the variables of one atom, each once where it is named first
abbrev order_in : Atom → List ℕ
order_in atom = first_ones (atom_vars atom)

pub order_in-names : (atom : Atom) (v : ℕ) → Names atom v → Contains (first_ones (atom_vars atom)) v
order_in-names atom v names = (Contains-first_ones (atom_vars atom) v).1 names

pub order_in-below : (atom : Atom) → AtomNamesBelow 64 atom → All (λ v. v < 64) (first_ones (atom_vars atom))
order_in-below atom below k d lt =
    let v = get_or (order_in atom) k d in
    let names = (Contains-first_ones (atom_vars atom) v).0 (Contains-get_or (order_in atom) k d lt) in
    below_from_Names 64 atom v below names

pub order_in-few : (atom : Atom) → AtomNamesBelow 64 atom → length (first_ones (atom_vars atom)) ≤ 64
order_in-few atom below =
    few_distinct (order_in atom) 64 (first_ones-distinct (atom_vars atom))
    (λ v has. below_from_Names 64 atom v below ((Contains-first_ones (atom_vars atom) v).0 has))
