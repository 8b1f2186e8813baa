-- What closes a box by one atom or by the sum of two, and what neither closes, on small worked values, as the checker
-- computes them.
use Rattle.std.proofs.Common.{◌≡◌, ℕ, ℤ, pos, negsuc, true, false, List, [], ◌∷◌, slice_get, Some, refl}
use Rattle.std.proofs.lemmas.Bool.{both_ways}
use Rattle.lin_model.specs.declared.op.Op.TheVariants.{Le, Ge, Eq}
use Rattle.lin_model.specs.Form.{form_value}
use Rattle.lin_model.specs.KeyAtom.{PlainKeyAtom, KeyAtomHolds}
use Rattle.lin_model.specs.Key.{KeyHolds}
use Rattle.lin_model.specs.Test.{passes}
use Rattle.lin_model.specs.Bounded.{variable}
use Rattle.lin_model.specs.Lists.{All-at}
use Rattle.refutation.specs.Bounds.{variables, key_bounds, is_empty, least, greatest}
use Rattle.refutation.specs.Box.{PlainBox, root_box, on_side}
use Rattle.refutation.specs.Leaf.{combo, fixed, empty, combo_closes, fixed_closes, summed_form, is_positive_sum}
use Rattle.refutation.specs.Leaf.{ClosedByOneAtom, ClosedBySumOfTwo}
use Rattle.refutation.specs.SearchOrder.{lowest_corner}
use Rattle.refutation.specs.SearchTree.{IsUndecided}
use Rattle.refutation.proofs.UnitTerms.{no_unit_closes, no_fixed_closes, no_two_close, not_by_one, not_by_two}
use Rattle.refutation.proofs.Worked.{sum_of, difference, atom, on_atom, on_side as side_term, over, crossed, pinned}
use Rattle.refutation.proofs.Worked.{one_value}
use Rattle.refutation.proofs.WorkedCuts.{not_zero}

-- ---- closed by one atom

-- `v0 <= 3`, `v0 >= 4`: an empty box
check_by_empty : ClosedByOneAtom (atom (variable 0) Le (pos 3) ∷ atom (variable 0) Ge (pos 4) ∷ [])
    (root_box (atom (variable 0) Le (pos 3) ∷ atom (variable 0) Ge (pos 4) ∷ []))
unfolding is_empty variables key_bounds
check_by_empty = (empty, refl, refl)

-- `v0 = 3`, `v0 != 3`: one value, which fails
check_by_value : ClosedByOneAtom one_value (root_box one_value)
unfolding fixed_closes least greatest variables key_bounds
check_by_value = (fixed 1, refl, refl)

-- `v0 + v1 = 5` over 0 to 2 each: by the factor -1, and not by the factor 1
abbrev too_much : List PlainKeyAtom
too_much = over 2 2 (atom (sum_of (pos 1) (pos 1)) Eq (pos 5) ∷ [])

check_by_minus_one : ClosedByOneAtom too_much (root_box too_much)
unfolding combo_closes summed_form is_positive_sum least variables key_bounds
check_by_minus_one = (combo (on_atom 2 (negsuc 0) ∷ []), refl, refl)

check_not_by_plus_one : combo_closes too_much (root_box too_much) (on_atom 2 (pos 1) ∷ []) ≡ false
unfolding combo_closes summed_form is_positive_sum least variables key_bounds
check_not_by_plus_one = refl

-- the side `v0 <= -1` of `v0 != 0` over 0 to 9
check_by_side : ClosedByOneAtom not_zero (on_side (root_box not_zero) 2 false)
unfolding combo_closes summed_form is_positive_sum least variables key_bounds
check_by_side = (combo (side_term 0 (pos 1) ∷ []), refl, refl)

-- `v0 - v1 <= -1` and `v0 - v1 >= 1`: two are needed, and they do
check_not_one : ¬ ClosedByOneAtom crossed (root_box crossed)
unfolding combo_closes fixed_closes summed_form is_positive_sum is_empty least greatest variables key_bounds
check_not_one = not_by_one crossed (root_box crossed) refl refl refl

check_by_two : ClosedBySumOfTwo crossed (root_box crossed)
unfolding combo_closes summed_form is_positive_sum least variables key_bounds
check_by_two = (combo (on_atom 0 (pos 1) ∷ on_atom 1 (pos 1) ∷ []), refl, refl)

-- ---- closed by the sum of two

-- `v0 - v1 >= 0` with the side `v0 - v1 <= -1`
check_by_atom_and_side : ClosedBySumOfTwo pinned (on_side (root_box pinned) 2 false)
unfolding combo_closes summed_form is_positive_sum least variables key_bounds
check_by_atom_and_side = (combo (on_atom 1 (pos 1) ∷ side_term 0 (pos 1) ∷ []), refl, refl)

-- `v0 < v1`, `v1 < v2` and `v2 < v0`: three are needed
abbrev cycle : List PlainKeyAtom
cycle =
    atom difference Le (negsuc 0) ∷ atom (record { var = 0; coef = pos 1 } ∷ record { var = 2; coef = negsuc 0 } ∷ [])
    Ge (pos 1) ∷ atom (record { var = 1; coef = pos 1 } ∷ record { var = 2; coef = negsuc 0 } ∷ []) Le (negsuc 0) ∷ []

check_not_two : ¬ ClosedBySumOfTwo cycle (root_box cycle)
unfolding combo_closes summed_form is_positive_sum least variables key_bounds
check_not_two = not_by_two cycle (root_box cycle) refl

check_by_three : combo_closes cycle (root_box cycle) (on_atom 0 (pos 1) ∷ on_atom 1 (pos 1) ∷ on_atom 2 (pos 1) ∷ [])
    ≡ true
unfolding combo_closes summed_form is_positive_sum least variables key_bounds
check_by_three = refl

-- ---- boxes that have to be split

-- the corner fails the atom of this number
corner-fails : (key : List PlainKeyAtom) (point : List ℤ) (i : ℕ) (a : PlainKeyAtom) → slice_get key i ≡ Some a
    → passes a.op a.constant (form_value a.form point) ≡ false → ¬ KeyHolds key point
corner-fails key point i a is fails holds =
    both_ways (passes a.op a.constant (form_value a.form point)) fails
    (All-at (λ b. KeyAtomHolds b point) key i a holds is)

pub undecided : (key : List PlainKeyAtom) (box : PlainBox) (i : ℕ) (a : PlainKeyAtom)
    → is_empty box.bounds ≡ false → no_unit_closes key box ≡ true → no_fixed_closes key box ≡ true
    → no_two_close key box ≡ true → slice_get key i ≡ Some a
    → passes a.op a.constant (form_value a.form (lowest_corner key box.bounds)) ≡ false
    → IsUndecided key box
undecided key box i a full units values pairs is fails = record {
  not_by_one = not_by_one key box full units values;
  not_by_two = not_by_two key box pairs;
  corner_fails = corner-fails key (lowest_corner key box.bounds) i a is fails;
}
