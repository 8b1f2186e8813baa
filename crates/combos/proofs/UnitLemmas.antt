-- One term that closes a box is worth more than 0 at both corners.
use Rattle.std.proofs.Common.{◌≡◌, inl, inr, ℕ, ℤ, pos, negsuc, ◌≤ℤ◌, ◌<ℤ◌, Bool, false, true, Option, Some, None, List, []}
use Rattle.std.proofs.Common.{◌∷◌, ◌||◌, refl, ap, sym, ◌∙◌, arith}
use Rattle.std.specs.Option.{option_map, option_and_then}
use Rattle.std.proofs.lemmas.Bool.{false_from_ne_true}
use Rattle.std.proofs.lemmas.Int.{ints}
use Rattle.lin_model.specs.KeyAtom.{PlainKeyAtom}
use Rattle.lin_model.specs.Key.{IsKey}
use Rattle.refutation.specs.declared.leaf.LeafTerm.{LeafTerm}
use Rattle.refutation.specs.Bounds.{is_empty, AreBounds}
use Rattle.refutation.specs.Box.{PlainBox}
use Rattle.refutation.specs.Glance.{term_at, closes_alone, unit_closes}
use Rattle.refutation.specs.Laws.{worth, CombinationsArePositive}
use Rattle.refutation.specs.Leaf.{Multiple, multiple_of, combo_closes}
use Rattle.combos.specs.AtCorners.{IsNoneOr, HoldsThere, BothHold, IsOnlyFailing}
use Rattle.combos.specs.Corner.{corner, worth_of, corner_value}
use Rattle.combos.proofs.CornerLemmas.{corner-within}

record IsWorthAlone (key : List PlainKeyAtom) (box : PlainBox) (highest : Bool) (t : LeafTerm) : Type 0 where
  value : ℤ
  is : corner_value key box highest t ≡ Some value
  positive : pos 0 <ℤ value

abbrev alone : Option Multiple → Option (List Multiple)
alone o = option_and_then (λ m. option_map (λ ms. m ∷ ms) (Some [])) o

alone_there : (point : List ℤ) (o : Option Multiple) (ms : List Multiple) → alone o ≡ Some ms → pos 0 <ℤ worth ms point
    → (x : ℤ) × (option_map (worth_of point) o ≡ Some x) × (pos 0 <ℤ x)
alone_there point None ms is positive = absurd (cc)
alone_there point (Some m) ms is positive =
    let are : m ∷ [] ≡ ms = cc in
    (worth_of point m, refl, omega (arith, ints, ap (λ (xs : List Multiple). worth xs point) are, positive))

is_worth_alone : (key : List PlainKeyAtom) (box : PlainBox) (highest : Bool) (t : LeafTerm) → CombinationsArePositive
    → IsKey key → AreBounds box.bounds → is_empty box.bounds ≡ false → combo_closes key box (t ∷ []) ≡ true
    → IsWorthAlone key box highest t
is_worth_alone key box highest t law is are full closed =
    let at = law key box (t ∷ []) (corner box.bounds highest) is (corner-within box.bounds highest are full) closed in
    let one = alone_there (corner box.bounds highest) (multiple_of key box.sides t) at.multiples at.are at.positive in
    record { value = one.0; is = one.1; positive = one.2 }

-- where it isn't worth more than 0 at a corner
pub too_little_alone : (key : List PlainKeyAtom) (box : PlainBox) (highest : Bool) (t : LeafTerm) (a : ℤ)
    → CombinationsArePositive → IsKey key → AreBounds box.bounds → is_empty box.bounds ≡ false
    → IsNoneOr (corner_value key box highest t) a → a ≤ℤ pos 0 → combo_closes key box (t ∷ []) ≡ false
too_little_alone key box highest t a law is are full weighed little =
    false_from_ne_true (combo_closes key box (t ∷ [])) (λ closed.
    let one = is_worth_alone key box highest t law is are full closed in
    let same = weighed one.value one.is in
    absurd (omega (arith, ints, one.positive, little, same)))

-- where it holds at the lowest corner
holds_alone : (key : List PlainKeyAtom) (box : PlainBox) (t : LeafTerm) → CombinationsArePositive → IsKey key
    → AreBounds box.bounds → is_empty box.bounds ≡ false → HoldsThere key box t → combo_closes key box (t ∷ []) ≡ false
holds_alone key box t law is are full holds =
    false_from_ne_true (combo_closes key box (t ∷ [])) (λ closed.
    let one = is_worth_alone key box false t law is are full closed in
    absurd (omega (arith, ints, one.positive, holds one.value one.is)))

-- neither factor of the place closes the box
neither : (key : List PlainKeyAtom) (box : PlainBox) (place : ℕ) → closes_alone key box place (pos 1) ≡ false
    → closes_alone key box place (negsuc 0) ≡ false → unit_closes key box place ≡ false
neither key box place plus minus =
    ap (λ (b : Bool). b || closes_alone key box place (negsuc 0)) plus ∙ minus

pub none_closes : (key : List PlainKeyAtom) (box : PlainBox) (place : ℕ) → CombinationsArePositive → IsKey key
    → AreBounds box.bounds → is_empty box.bounds ≡ false → BothHold key box place → unit_closes key box place ≡ false
none_closes key box place law is are full both =
    neither key box place (holds_alone key box (term_at key place (pos 1)) law is are full both.plus)
    (holds_alone key box (term_at key place (negsuc 0)) law is are full both.minus)

pub nor_closes : (key : List PlainKeyAtom) (box : PlainBox) (place : ℕ) (term : LeafTerm) → CombinationsArePositive
    → IsKey key → AreBounds box.bounds → is_empty box.bounds ≡ false → IsOnlyFailing key box place term
    → combo_closes key box (term ∷ []) ≡ false → unit_closes key box place ≡ false
nor_closes key box place term law is are full (inl plus) open_ =
    neither key box place (ap (λ (t : LeafTerm). combo_closes key box (t ∷ [])) (sym plus.0) ∙ open_)
    (holds_alone key box (term_at key place (negsuc 0)) law is are full plus.1)
nor_closes key box place term law is are full (inr minus) open_ =
    neither key box place (holds_alone key box (term_at key place (pos 1)) law is are full minus.1)
    (ap (λ (t : LeafTerm). combo_closes key box (t ∷ [])) (sym minus.0) ∙ open_)
