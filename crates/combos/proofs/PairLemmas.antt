-- Sums of two terms: what they are worth at the corner, that their order says nothing, and that those are tried which
-- can close a box.
use Rattle.std.proofs.Common.{◌≡◌, ◌⊎◌, inl, inr, ⊎_elim, ℕ, ◌<◌, ℤ, pos, negsuc, ◌+ℤ◌, ◌-ℤ◌, ◌≤ℤ◌, ◌<ℤ◌, int_lt, true}
use Rattle.std.proofs.Common.{false, Bool, Option, Some, None, List, [], ◌∷◌, map, refl, ap, sym, ◌∙◌, subst}
use Rattle.std.proofs.Common.{arith}
use Rattle.std.specs.Option.{option_map, option_and_then, option_map_or}
use Rattle.std.proofs.lemmas.Bool.{or_cases, both_ways, false_from_ne_true, and_from}
use Rattle.std.proofs.lemmas.Int.{ints, by_lt_z}
use Rattle.lin_model.specs.declared.form.FormTerm.{FormTerm}
use Rattle.lin_model.specs.KeyAtom.{PlainKeyAtom}
use Rattle.lin_model.specs.Key.{IsKey}
use Rattle.refutation.specs.declared.leaf.LeafTerm.{LeafTerm}
use Rattle.refutation.specs.Bounds.{PlainBounds, variables, least, is_empty, AreBounds}
use Rattle.refutation.specs.Box.{PlainBox}
use Rattle.refutation.specs.Glance.{place_count, term_at, close_together, closes_with}
use Rattle.refutation.specs.Glance.{SomePairCloses}
use Rattle.refutation.specs.Laws.{worth, CombinationsArePositive}
use Rattle.refutation.specs.Leaf.{Multiple, multiple_of, summed_coefficient}
use Rattle.refutation.specs.Leaf.{summed_constant, summed_form, is_positive_sum, combo_closes, PlainLeaf, combo, closes, is_unit, is_sum_of_two}
use Rattle.combos.specs.AtCorners.{IsNoneOr, BothHold, IsOnlyFailing}
use Rattle.combos.specs.Corner.{corner, worth_of, corner_value}
use Rattle.combos.specs.Tried.{NeitherCloses, NoneCloses, NoneIfFailing, NoPairFrom, ClosesWith, IsClosingPair}
use Rattle.combos.proofs.CornerLemmas.{corner-within}

-- the multiples of two terms
abbrev both : Option Multiple → Option Multiple → Option (List Multiple)
both o p =
    option_and_then (λ m. option_map (λ ms. m ∷ ms) (option_and_then (λ n. option_map (λ ms. n ∷ ms) (Some [])) p)) o

-- ---- their order

over_variables : (f g : ℕ → ℤ) (vs : List ℕ) → ((v : ℕ) → f v ≡ g v)
    → map (λ v. let t : FormTerm = record { var = v; coef = f v } in t) vs
    ≡ map (λ v. let t : FormTerm = record { var = v; coef = g v } in t) vs
over_variables f g [] same = refl
over_variables f g (v ∷ vs) same =
    ap (λ (k : ℤ). record { var = v; coef = k } ∷ map (λ w. let t : FormTerm = record { var = w; coef = f w } in t) vs)
    (same v)
    ∙ ap (λ (ts : List FormTerm). record { var = v; coef = g v } ∷ ts) (over_variables f g vs same)

sum-swapped : (b : PlainBounds) (m n : Multiple) → is_positive_sum b (m ∷ n ∷ []) ≡ is_positive_sum b (n ∷ m ∷ [])
unfolding is_positive_sum summed_form
sum-swapped b m n =
    ap (λ (f : List FormTerm). option_map_or (λ x. int_lt (pos 0) (x -ℤ summed_constant (m ∷ n ∷ []))) (least f b) false)
    (over_variables (summed_coefficient (m ∷ n ∷ [])) (summed_coefficient (n ∷ m ∷ [])) variables
    (λ v. omega (arith, ints)))
    ∙ ap (λ (c : ℤ). option_map_or (λ x. int_lt (pos 0) (x -ℤ c)) (least (summed_form (n ∷ m ∷ [])) b) false) constants
  where
    constants : summed_constant (m ∷ n ∷ []) ≡ summed_constant (n ∷ m ∷ [])
    constants = omega (arith, ints)

both-swapped : (b : PlainBounds) (o p : Option Multiple)
    → option_map_or (is_positive_sum b) (both o p) false ≡ option_map_or (is_positive_sum b) (both p o) false
both-swapped b None None = refl
both-swapped b None (Some n) = refl
both-swapped b (Some m) None = refl
both-swapped b (Some m) (Some n) = sum-swapped b m n

pub swapped : (key : List PlainKeyAtom) (box : PlainBox) (t u : LeafTerm)
    → combo_closes key box (t ∷ u ∷ []) ≡ combo_closes key box (u ∷ t ∷ [])
unfolding combo_closes
swapped key box t u = both-swapped box.bounds (multiple_of key box.sides t) (multiple_of key box.sides u)

-- ---- what they are worth at the corner

pub record AreWorth (key : List PlainKeyAtom) (box : PlainBox) (highest : Bool) (t u : LeafTerm) : Type 0 where
  pub first : ℤ
  pub second : ℤ
  pub is_first : corner_value key box highest t ≡ Some first
  pub is_second : corner_value key box highest u ≡ Some second
  pub positive : pos 0 <ℤ (first +ℤ second)

both_there : (point : List ℤ) (o p : Option Multiple) (ms : List Multiple) → both o p ≡ Some ms → pos 0 <ℤ worth ms point
    → (x : ℤ) × (y : ℤ) × (option_map (worth_of point) o ≡ Some x) × (option_map (worth_of point) p ≡ Some y)
    × (pos 0 <ℤ (x +ℤ y))
both_there point None p ms is positive = absurd (cc)
both_there point (Some m) None ms is positive = absurd (cc)
both_there point (Some m) (Some n) ms is positive =
    let are : m ∷ n ∷ [] ≡ ms = cc in (
      worth_of point m,
      worth_of point n,
      refl,
      refl,
      omega (arith, ints, ap (λ (xs : List Multiple). worth xs point) are, positive),
    )

pub are_worth : (key : List PlainKeyAtom) (box : PlainBox) (highest : Bool) (t u : LeafTerm) → CombinationsArePositive → IsKey key
    → AreBounds box.bounds → is_empty box.bounds ≡ false → combo_closes key box (t ∷ u ∷ []) ≡ true
    → AreWorth key box highest t u
are_worth key box highest t u law is are full closed =
    let at = law key box (t ∷ u ∷ []) (corner box.bounds highest) is (corner-within box.bounds highest are full) closed in
    let two = both_there (corner box.bounds highest) (multiple_of key box.sides t) (multiple_of key box.sides u) at.multiples
    at.are at.positive in
    record { first = two.0; second = two.1; is_first = two.2; is_second = two.3; positive = two.4 }

-- ---- none closes

by_factor : (key : List PlainKeyAtom) (box : PlainBox) (place : ℕ) (f : ℤ) → (f ≡ pos 1) ⊎ (f ≡ negsuc 0)
    → NoPairFrom key box place → NoneIfFailing key box (term_at key place f)
by_factor key box place f (inl one) none = subst (λ (k : ℤ). NoneIfFailing key box (term_at key place k)) (sym one) none.plus
by_factor key box place f (inr minus) none =
    subst (λ (k : ℤ). NoneIfFailing key box (term_at key place k)) (sym minus) none.minus

by_other : (key : List PlainKeyAtom) (box : PlainBox) (first : LeafTerm) (place : ℕ) (f : ℤ)
    → (f ≡ pos 1) ⊎ (f ≡ negsuc 0) → NeitherCloses key box first place
    → combo_closes key box (first ∷ term_at key place f ∷ []) ≡ false
by_other key box first place f (inl one) none =
    ap (λ (k : ℤ). combo_closes key box (first ∷ term_at key place k ∷ [])) one ∙ none.plus
by_other key box first place f (inr minus) none =
    ap (λ (k : ℤ). combo_closes key box (first ∷ term_at key place k ∷ [])) minus ∙ none.minus

pub no_pairs : (key : List PlainKeyAtom) (box : PlainBox) → CombinationsArePositive → IsKey key → AreBounds box.bounds
    → is_empty box.bounds ≡ false
    → ((place : ℕ) → place < place_count key box.sides → NoPairFrom key box place) → ¬ SomePairCloses key box
no_pairs key box law is are full none some =
    let p = some.number in
    let q = some.holds.number in
    ⊎_elim (λ plus. with_first (pos 1) (inl refl) plus) (λ minus. with_first (negsuc 0) (inr refl) minus)
    (or_cases (closes_with key box p (pos 1) q) (closes_with key box p (negsuc 0) q) some.holds.holds)
  where
    with_both : (f g : ℤ) → (f ≡ pos 1) ⊎ (f ≡ negsuc 0) → (g ≡ pos 1) ⊎ (g ≡ negsuc 0)
        → close_together key box some.number f some.holds.number g ≡ true → ⊥
    with_both f g unit unit' closed =
        let p = some.number in
        let q = some.holds.number in
        let t = term_at key p f in
        let u = term_at key q g in
        let two = are_worth key box false t u law is are full closed in
        by_lt_z (pos 0) two.first
        (λ above. both_ways (combo_closes key box (t ∷ u ∷ []))
        (by_other key box t q g unit'
        (by_factor key box p f unit (none p some.below) two.first two.is_first above q some.holds.below)) closed)
        (λ below. both_ways (combo_closes key box (u ∷ t ∷ []))
        (by_other key box u p f unit
        (by_factor key box q g unit' (none q some.holds.below) two.second two.is_second
        (omega (arith, ints, two.positive, below)) p some.below)) (sym (swapped key box t u) ∙ closed))

    with_first : (f : ℤ) → (f ≡ pos 1) ⊎ (f ≡ negsuc 0)
        → closes_with key box some.number f some.holds.number ≡ true → ⊥
    with_first f unit closed =
        ⊎_elim (λ plus. with_both f (pos 1) unit (inl refl) plus)
        (λ minus. with_both f (negsuc 0) unit (inr refl) minus)
        (or_cases (close_together key box some.number f some.holds.number (pos 1))
        (close_together key box some.number f some.holds.number (negsuc 0)) closed)

-- ---- one test of two terms

-- a leaf of the two terms, in either order
pub in_order : (key : List PlainKeyAtom) (box : PlainBox) (t u : LeafTerm) (leaf : PlainLeaf)
    → (leaf ≡ combo (t ∷ u ∷ [])) ⊎ (leaf ≡ combo (u ∷ t ∷ []))
    → closes key box leaf ≡ combo_closes key box (t ∷ u ∷ [])
in_order key box t u leaf (inl same) = ap (closes key box) same
in_order key box t u leaf (inr other) = ap (closes key box) other ∙ swapped key box u t

pub is_pair : (key : List PlainKeyAtom) (box : PlainBox) (t u : LeafTerm) (leaf : PlainLeaf)
    → (leaf ≡ combo (t ∷ u ∷ [])) ⊎ (leaf ≡ combo (u ∷ t ∷ [])) → is_unit t ≡ true → ClosesWith key box t u
    → IsClosingPair key box leaf
is_pair key box t u leaf same unit with' = record {
  closes = in_order key box t u leaf same ∙ with'.closes;
  pair = ⊎_elim (λ e. ap is_sum_of_two e ∙ and_from (is_unit t) (is_unit u) unit with'.unit)
      (λ e. ap is_sum_of_two e ∙ and_from (is_unit u) (is_unit t) with'.unit unit) same;
}

-- where both together aren't worth more than 0 at a corner
pub too_little : (key : List PlainKeyAtom) (box : PlainBox) (highest : Bool) (t u : LeafTerm) (a b : ℤ)
    → CombinationsArePositive → IsKey key → AreBounds box.bounds → is_empty box.bounds ≡ false
    → IsNoneOr (corner_value key box highest t) a → IsNoneOr (corner_value key box highest u) b
    → (a +ℤ b) ≤ℤ pos 0 → combo_closes key box (t ∷ u ∷ []) ≡ false
too_little key box highest t u a b law is are full first second little =
    false_from_ne_true (combo_closes key box (t ∷ u ∷ [])) (λ closed.
    let two = are_worth key box highest t u law is are full closed in
    let one = first two.first two.is_first in
    let other = second two.second two.is_second in
    absurd (omega (arith, ints, two.positive, little, one, other)))

-- where the second stands for nothing
pub without_second : (key : List PlainKeyAtom) (box : PlainBox) (t u : LeafTerm) → CombinationsArePositive → IsKey key
    → AreBounds box.bounds → is_empty box.bounds ≡ false → corner_value key box false u ≡ None
    → combo_closes key box (t ∷ u ∷ []) ≡ false
without_second key box t u law is are full none =
    false_from_ne_true (combo_closes key box (t ∷ u ∷ [])) (λ closed.
    let two = are_worth key box false t u law is are full closed in
    let clash : Some two.second ≡ None = sym two.is_second ∙ none in
    absurd (cc))

-- at each place the one factor that fails has no pair, and the other one holds
pub no_pair_from : (key : List PlainKeyAtom) (box : PlainBox) (place : ℕ) (term : LeafTerm)
    → IsOnlyFailing key box place term → NoneCloses key box term → NoPairFrom key box place
no_pair_from key box place term (inl plus) none = record {
  plus = λ x is above. subst (NoneCloses key box) plus.0 none;
  minus = λ x is above. absurd (omega (arith, ints, plus.1 x is, above));
}
no_pair_from key box place term (inr minus) none = record {
  plus = λ x is above. absurd (omega (arith, ints, minus.1 x is, above));
  minus = λ x is above. subst (NoneCloses key box) minus.0 none;
}

pub none_from : (key : List PlainKeyAtom) (box : PlainBox) (place : ℕ) → BothHold key box place
    → NoPairFrom key box place
none_from key box place both = record {
  plus = λ x is above. absurd (omega (arith, ints, both.plus x is, above));
  minus = λ x is above. absurd (omega (arith, ints, both.minus x is, above));
}
