-- What is tried of a box at a glance is what closes it: one atom or side, or two.
use Rattle.std.proofs.Common.{◌≡◌, ◌⊎◌, inl, inr, ⊎_elim, ℕ, ◌+◌, ◌-◌, ◌<◌, ◌≤◌, ℤ, pos, negsuc, Bool, true, false}
use Rattle.std.proofs.Common.{cond, ◌||◌, Option, None, List, [], ◌∷◌, length, get_or, nat_le, neg_ℤ, refl, ap, sym}
use Rattle.std.proofs.Common.{subst, ◌∙◌, arith}
use Rattle.std.specs.Prelude.{IsTrue, ◌↔◌}
use Rattle.std.specs.Option.{option_map_or, option_and_then}
use Rattle.std.proofs.lemmas.Bool.{and_parts, and_from, or_left, or_right, or_cases, and_right, both_ways, cases_lt}
use Rattle.std.proofs.lemmas.Bool.{lt-ltb, le-ltb}
use Rattle.std.proofs.lemmas.Bool.Decides.{Decides-int_eq}
use Rattle.std.proofs.lemmas.Option.{slice_get_past}
use Rattle.std.specs.Ordering.{int_eq}
use Rattle.lin_model.specs.KeyAtom.{PlainKeyAtom}
use Rattle.refutation.specs.declared.leaf.LeafTerm.{LeafTerm}
use Rattle.refutation.specs.declared.leaf.On.{On}
use Rattle.refutation.specs.declared.leaf.On.TheVariants.{Atom as OnAtom, Side as OnSide}
use Rattle.refutation.specs.declared.side.Side.{Side}
use Rattle.refutation.specs.Bounds.{PlainBounds, is_empty, least, greatest}
use Rattle.refutation.specs.Box.{PlainBox, side_atom}
use Rattle.refutation.specs.Glance.{SomeBelow, place_count, on_place, term_at, closes_alone, close_together}
use Rattle.refutation.specs.Glance.{closes_with, SomeUnitCloses, SomePairCloses}
use Rattle.refutation.specs.Leaf.{PlainLeaf, Multiple, combo, fixed, empty, closes, named, multiple_of, is_positive_sum}
use Rattle.refutation.specs.Leaf.{is_unit, weighted, fails_fixed, combo_closes, fixed_closes, is_by_one, is_sum_of_two}
use Rattle.refutation.specs.Leaf.{ClosedByOneAtom, ClosedBySumOfTwo}
use Rattle.refutation.specs.Sum.{PlainSum, is_positive_within, AddsIfSome}
use Rattle.refutation.proofs.LeafLemmas.{multiples_of-none, IsSummed, IsSummed-more, IsSummed-positive}
use Rattle.refutation.proofs.LeafLemmas.{multiples_of-fails, combo_closes-is}

-- ---- sums of one and two terms

pub one-summed : (key : List PlainKeyAtom) (sides : List Side) (t : LeafTerm) (old new : PlainSum) (added : Bool)
    → IsSummed key sides [] old → added ≡ true → AddsIfSome (multiple_of key sides t) old new added
    → IsSummed key sides (t ∷ []) new
one-summed key sides t old new added before is h =
    IsSummed-more key sides (t ∷ []) 0 t old new added (omega arith) is before h

pub two-summed : (key : List PlainKeyAtom) (sides : List Side) (t u : LeafTerm) (old new : PlainSum) (added : Bool)
    → IsSummed key sides (t ∷ []) old → added ≡ true → AddsIfSome (multiple_of key sides u) old new added
    → IsSummed key sides (t ∷ u ∷ []) new
two-summed key sides t u old new added before is h =
    IsSummed-more key sides (t ∷ u ∷ []) 1 u old new added (omega arith) is before h

pub summed-closes : (key : List PlainKeyAtom) (box : PlainBox) (terms : List LeafTerm) (s : PlainSum) (positive : Bool)
    → 0 < length terms → length terms ≤ 8 → IsSummed key box.sides terms s → positive ≡ is_positive_within s box.bounds
    → positive ≡ combo_closes key box terms
summed-closes key box terms s positive low high summed is =
    is ∙ IsSummed-positive key box.sides terms s box.bounds summed ∙ sym (combo_closes-is key box terms low high)

-- a term that isn't there, at its place of the combination
pub missing-closes : (key : List PlainKeyAtom) (box : PlainBox) (terms : List LeafTerm) (i : ℕ) (t : LeafTerm)
    (old new : PlainSum) (added : Bool)
    → length terms ≤ 8 → i < length terms → added ≡ false
    → AddsIfSome (multiple_of key box.sides (get_or terms i t)) old new added → false ≡ combo_closes key box terms
missing-closes key box terms i t old new added high lt is h =
    sym (combo_closes-is key box terms (omega (arith, lt)) high
    ∙ ap (λ (o : Option (List Multiple)). option_map_or (is_positive_sum box.bounds) o false)
    (multiples_of-fails key box.sides terms i t old new added lt is h))

-- the factor as the code passes it on
pub adds-as : (key : List PlainKeyAtom) (sides : List Side) (place : ℕ) (passed factor : ℤ) (old new : PlainSum)
    (added : Bool)
    → passed ≡ factor → AddsIfSome (multiple_of key sides (term_at key place passed)) old new added
    → AddsIfSome (multiple_of key sides (term_at key place factor)) old new added
adds-as key sides place passed factor old new added same h =
    subst (λ (f : ℤ). AddsIfSome (multiple_of key sides (term_at key place f)) old new added) same h

-- ---- loops

-- none so far, and there are no more
pub none_below : (P : ℕ → Type 0) (n m : ℕ) → n ≤ m → ((k : ℕ) → k < m → P k → ⊥) → IsTrue false ↔ SomeBelow P n
none_below P n m le none = (λ yes'. absurd (cc), λ h. absurd (none h.number (omega (arith, h.below)) h.holds))

-- ---- what names nothing closes nothing

combo_closes-unnamed : (key : List PlainKeyAtom) (box : PlainBox) (terms : List LeafTerm) (i : ℕ) (d : LeafTerm)
    → i < length terms → named key box.sides (get_or terms i d).on ≡ None → combo_closes key box terms ≡ false
unfolding combo_closes
combo_closes-unnamed key box terms i d lt none =
    let no_multiple = ap (option_and_then (λ a. weighted a (get_or terms i d).factor)) none in
    let no_sum = ap (λ o. option_map_or (is_positive_sum box.bounds) o false)
    (multiples_of-none key box.sides terms i d lt no_multiple) in
    and_right (nat_le 1 (length terms)) _ (and_right (nat_le (length terms) 8) _ no_sum)

fixed_closes-past : (key : List PlainKeyAtom) (b : PlainBounds) (i : ℕ) → length key ≤ i → fixed_closes key b i ≡ false
unfolding fixed_closes
fixed_closes-past key b i le =
    ap (λ (o : Option PlainKeyAtom). option_map_or (λ a. fails_fixed a (least a.form b) (greatest a.form b)) o false)
    (slice_get_past key i le)

unit_factor : (f : ℤ) → (int_eq f (pos 1) || int_eq f (neg_ℤ (pos 1))) ≡ true → (f ≡ pos 1) ⊎ (f ≡ negsuc 0)
unit_factor f h =
    ⊎_elim (λ one. inl ((Decides-int_eq f (pos 1)).0 one)) (λ minus. inr ((Decides-int_eq f (neg_ℤ (pos 1))).0 minus))
    (or_cases (int_eq f (pos 1)) (int_eq f (neg_ℤ (pos 1))) h)

-- ---- the row of atoms and sides

-- what is named stands in the row
place_of : (key : List PlainKeyAtom) (sides : List Side) (on : On)
    → ((p : ℕ) × (p < place_count key sides) × (on_place key p ≡ on)) ⊎ (named key sides on ≡ None)
place_of key sides (OnAtom i) =
    ⊎_elim (λ lt. inl (
      i,
      omega (arith, lt),
      ap (λ (b : Bool). cond b (OnAtom i) (OnSide (i - length key)))
          (lt-ltb i (length key) lt),
    )) (λ le. inr (slice_get_past key i le)) (cases_lt i (length key))
place_of key sides (OnSide k) =
    ⊎_elim (λ lt. let same : length key + k - length key ≡ k = omega arith in
    inl (
      length key + k,
      omega (arith, lt),
      ap (λ (b : Bool). cond b (OnAtom (length key + k)) (OnSide (length key + k - length key)))
          (le-ltb (length key + k) (length key) (omega arith)) ∙ ap OnSide same,
    ))
    (λ le. inr (ap (option_and_then (side_atom key)) (slice_get_past sides k le))) (cases_lt k (length sides))

-- ---- one

by_factor : (test : ℤ → Bool) (f : ℤ) → (f ≡ pos 1) ⊎ (f ≡ negsuc 0) → test f ≡ true
    → (test (pos 1) || test (negsuc 0)) ≡ true
by_factor test f unit h =
    ⊎_elim (λ one. or_left (test (pos 1)) (test (negsuc 0)) (ap test (sym one) ∙ h))
    (λ minus. or_right (test (pos 1)) (test (negsuc 0)) (ap test (sym minus) ∙ h)) unit

pub one-from_unit : (key : List PlainKeyAtom) (box : PlainBox) → SomeUnitCloses key box → ClosedByOneAtom key box
one-from_unit key box h =
    ⊎_elim (λ plus. (combo (term_at key h.number (pos 1) ∷ []), refl, plus))
    (λ minus. (combo (term_at key h.number (negsuc 0) ∷ []), refl, minus))
    (or_cases (closes_alone key box h.number (pos 1)) (closes_alone key box h.number (negsuc 0)) h.holds)

pub one-from_fixed : (key : List PlainKeyAtom) (box : PlainBox)
    → SomeBelow (λ i. IsTrue (fixed_closes key box.bounds i)) (length key) → ClosedByOneAtom key box
one-from_fixed key box h = (fixed h.number, refl, h.holds)

pub unit-from_one : (key : List PlainKeyAtom) (box : PlainBox) → is_empty box.bounds ≡ false
    → (SomeBelow (λ i. IsTrue (fixed_closes key box.bounds i)) (length key) → ⊥) → ClosedByOneAtom key box
    → SomeUnitCloses key box
unit-from_one key box full no_fixed closed = by_leaf closed.0 closed.1 closed.2
  where
    by_term : (on : On) (f : ℤ) → is_unit (record { on = on; factor = f }) ≡ true
        → combo_closes key box (record { on = on; factor = f } ∷ []) ≡ true → SomeUnitCloses key box
    by_term on f unit h =
        ⊎_elim (λ place. record {
          number = place.0;
          below = place.1;
          holds = by_factor (closes_alone key box place.0) f (unit_factor f unit)
              (ap (λ (o : On). combo_closes key box (record { on = o; factor = f } ∷ [])) place.2 ∙ h);
        }) (λ none. absurd (both_ways (combo_closes key box (record { on = on; factor = f } ∷ []))
        (combo_closes-unnamed key box (record { on = on; factor = f } ∷ []) 0 (record { on = on; factor = f })
        (omega arith) none) h)) (place_of key box.sides on)

    by_leaf : (leaf : PlainLeaf) → is_by_one leaf ≡ true → closes key box leaf ≡ true → SomeUnitCloses key box
    by_leaf (combo []) one h = absurd (cc)
    by_leaf (combo (t ∷ [])) one h = by_term t.on t.factor one h
    by_leaf (combo (t ∷ u ∷ ts)) one h = absurd (cc)
    by_leaf (fixed i) one h =
        absurd (⊎_elim (λ lt. no_fixed (record { number = i; below = lt; holds = h }))
        (λ le. both_ways (fixed_closes key box.bounds i) (fixed_closes-past key box.bounds i le) h)
        (cases_lt i (length key)))
    by_leaf empty one h = absurd (both_ways (is_empty box.bounds) full h)

-- ---- two

pub two-from_pair : (key : List PlainKeyAtom) (box : PlainBox) → SomePairCloses key box → ClosedBySumOfTwo key box
two-from_pair key box h =
    let place = h.number in
    let other = h.holds.number in
    ⊎_elim (λ plus. with_first (pos 1) refl plus) (λ minus. with_first (negsuc 0) refl minus)
    (or_cases (closes_with key box place (pos 1) other) (closes_with key box place (negsuc 0) other) h.holds.holds)
  where
    with_first : (f : ℤ) → is_unit (record { on = OnAtom 0; factor = f }) ≡ true
        → closes_with key box h.number f h.holds.number ≡ true → ClosedBySumOfTwo key box
    with_first f unit closed =
        ⊎_elim (λ plus. (
          combo (term_at key h.number f ∷ term_at key h.holds.number (pos 1) ∷ []),
          and_from _ _ unit
              refl,
          plus,
        ))
        (λ minus. (
          combo (term_at key h.number f ∷ term_at key h.holds.number (negsuc 0) ∷ []),
          and_from _ _ unit refl,
          minus,
        )) (or_cases (close_together key box h.number f h.holds.number (pos 1))
        (close_together key box h.number f h.holds.number (negsuc 0)) closed)

pub pair-from_two : (key : List PlainKeyAtom) (box : PlainBox) → ClosedBySumOfTwo key box → SomePairCloses key box
pair-from_two key box closed = by_leaf closed.0 closed.1 closed.2
  where
    by_places : (t u : LeafTerm) (p q : ℕ) → p < place_count key box.sides → q < place_count key box.sides
        → on_place key p ≡ t.on → on_place key q ≡ u.on → is_unit t ≡ true → is_unit u ≡ true
        → combo_closes key box (t ∷ u ∷ []) ≡ true → SomePairCloses key box
    by_places t u p q lt lt' first second unit unit' h =
        let together : close_together key box p t.factor q u.factor
        ≡ true = ap (λ (o : On). combo_closes key box
        (record { on = o; factor = t.factor } ∷ term_at key q u.factor ∷ [])) first
        ∙ ap (λ (o : On). combo_closes key box (t ∷ record { on = o; factor = u.factor } ∷ [])) second ∙ h in
        record {
          number = p;
          below = lt;
          holds = record {
            number = q;
            below = lt';
            holds = by_factor (λ f. closes_with key box p f q) t.factor (unit_factor t.factor unit)
                (by_factor (λ g. close_together key box p t.factor q g) u.factor (unit_factor u.factor unit') together);
          };
        }

    unnamed : (t u : LeafTerm) (i : ℕ) → i < 2 → named key box.sides (get_or (t ∷ u ∷ []) i t).on ≡ None
        → combo_closes key box (t ∷ u ∷ []) ≡ true → ⊥
    unnamed t u i lt none h =
        both_ways (combo_closes key box (t ∷ u ∷ []))
        (combo_closes-unnamed key box (t ∷ u ∷ []) i t (omega (arith, lt)) none) h

    by_leaf : (leaf : PlainLeaf) → is_sum_of_two leaf ≡ true → closes key box leaf ≡ true → SomePairCloses key box
    by_leaf (combo []) two h = absurd (cc)
    by_leaf (combo (t ∷ [])) two h = absurd (cc)
    by_leaf (combo (t ∷ u ∷ [])) two h =
        let units = and_parts (is_unit t) (is_unit u) two in
        ⊎_elim (λ first. ⊎_elim (λ second. by_places t u first.0 second.0 first.1 second.1 first.2 second.2 units.0
        units.1 h) (λ none. absurd (unnamed t u 1 (omega arith) none h)) (place_of key box.sides u.on))
        (λ none. absurd (unnamed t u 0 (omega arith) none h)) (place_of key box.sides t.on)
    by_leaf (combo (t ∷ u ∷ v ∷ ts)) two h = absurd (cc)
    by_leaf (fixed i) two h = absurd (cc)
    by_leaf empty two h = absurd (cc)
