-- Search trees, open trees and rooms on small worked values, as the checker computes them.
use Rattle.std.proofs.Common.{◌≡◌, zero, suc, ℤ, pos, negsuc, Bool, true, false, not, ◌&&◌}
use Rattle.std.proofs.Common.{◌||◌, List, [], ◌∷◌, Some, get_or, ⊎_elim, refl, arith}
use Rattle.std.specs.List.{All, list_all}
use Rattle.std.proofs.lemmas.Bool.{and_parts, or_cases, not-true, both_ways}
use Rattle.std.proofs.lemmas.List.Kept.{AllPairs-cons}
use Rattle.std.proofs.lemmas.List.Sums.{AllPass-from_list_all}
use Rattle.std.proofs.lemmas.Int.{ints}
use Rattle.std.proofs.lemmas.List.Elements.{All-nil, All-cons}
use Rattle.lin_model.specs.declared.op.Op.TheVariants.{Le, Ge, Eq, Ne}
use Rattle.lin_model.specs.KeyAtom.{PlainKeyAtom, KeyAtomHolds}
use Rattle.lin_model.specs.Key.{KeyHolds}
use Rattle.lin_model.specs.Bounded.{variable}
use Rattle.refutation.specs.declared.node.Node.{Node}
use Rattle.refutation.specs.declared.node.Node.TheVariants.{Split, NeSplit, Combo, Left}
use Rattle.refutation.specs.Bounds.{variables, key_bounds, is_empty, least, greatest}
use Rattle.refutation.specs.Box.{PlainBox, root_box, left_half, on_side}
use Rattle.refutation.specs.Leaf.{combo, combo_closes, fixed_closes, summed_form, is_positive_sum}
use Rattle.refutation.specs.Reading.{Met, treated, read_over}
use Rattle.refutation.specs.Cut.{cut, upper_cut, lower_cut}
use Rattle.refutation.specs.SearchOrder.{step, lowest_corner}
use Rattle.refutation.specs.SearchTree.{is_inner, is_left, NoInnerAfterLeft, IsFair, undecided_boxes, search_reading}
use Rattle.refutation.specs.SearchTree.{IsUndecided, IsSearchSplit, KeepsOrder, IsSearchTree, IsOpenTree, room}
use Rattle.refutation.proofs.Worked.{difference, atom, on_atom, on_side as side_term, over}
use Rattle.refutation.proofs.WorkedCuts.{not_zero, three}
use Rattle.refutation.proofs.WorkedGlance.{undecided}

-- ---- no split behind a Left

-- a test of it that computes
abbrev inner_before_left : List Node → Bool
inner_before_left [] = true
inner_before_left (node ∷ nodes) =
    (not (is_left node) || list_all (λ later. not (is_inner later)) nodes) && inner_before_left nodes

left_last-from_test : (nodes : List Node) → inner_before_left nodes ≡ true → NoInnerAfterLeft nodes
left_last-from_test [] h = λ i j d less lt. absurd (omega (arith, lt))
left_last-from_test (node ∷ nodes) h =
    let two = and_parts (not (is_left node) || list_all (λ later. not (is_inner later)) nodes) (inner_before_left nodes)
    h in
    AllPairs-cons (λ n later. is_left n ≡ true → is_inner later ≡ false) node nodes
    (λ k d lt left. ⊎_elim (λ not_left. absurd (both_ways (is_left node) (not-true (is_left node) not_left) left))
    (λ none. not-true (is_inner (get_or nodes k d))
    (AllPass-from_list_all (λ later. not (is_inner later)) nodes none k d lt))
    (or_cases (not (is_left node)) (list_all (λ later. not (is_inner later)) nodes) two.0))
    (left_last-from_test nodes two.1)

-- ---- open trees

-- `v0 != 0` over 0 to 9: its box, the half with the side `v0 >= 1`, and the lower half of that
abbrev above_zero : PlainBox
above_zero = on_side (root_box not_zero) 2 true

abbrev not_equal : PlainKeyAtom
not_equal = atom (variable 0) Ne (pos 0)

root-undecided : IsUndecided not_zero (root_box not_zero)
unfolding combo_closes fixed_closes summed_form is_positive_sum is_empty least greatest lowest_corner variables
    key_bounds
root-undecided = undecided not_zero (root_box not_zero) 2 not_equal refl refl refl refl refl refl

above-undecided : IsUndecided not_zero above_zero
unfolding combo_closes fixed_closes summed_form is_positive_sum is_empty least greatest lowest_corner variables
    key_bounds
above-undecided = undecided not_zero above_zero 2 not_equal refl refl refl refl refl refl

lower-undecided : IsUndecided not_zero (left_half above_zero 0 (pos 4))
unfolding combo_closes fixed_closes summed_form is_positive_sum is_empty least greatest lowest_corner variables
    key_bounds
lower-undecided = undecided not_zero (left_half above_zero 0 (pos 4)) 2 not_equal refl refl refl refl refl refl

first-split : IsSearchSplit not_zero (root_box not_zero) (NeSplit 2)
unfolding step lowest_corner cut upper_cut lower_cut least greatest key_bounds variables
first-split = record { fair = λ k d lt. absurd (omega arith); undecided = root-undecided; in_order = refl }

second-split : IsSearchSplit not_zero above_zero (Split 0 (pos 4))
unfolding step lowest_corner cut upper_cut lower_cut is_empty least greatest key_bounds variables
second-split = record {
  fair = record { of_key = omega arith; left = refl; right = refl };
  undecided = above-undecided;
  in_order = refl;
}

-- what a look-up past the end would give
abbrev no_met : Met
no_met = record { node = Left; box = root_box not_zero }

-- two splits, by the atom and in the middle of what it leaves above 0
abbrev two_splits : ℤ → List Node
two_splits cut = NeSplit 2 ∷ Combo 1 ∷ Split 0 cut ∷ Left ∷ Left ∷ []

open_order : All (KeepsOrder not_zero)
    (search_reading not_zero (two_splits (pos 4)) (side_term 0 (pos 1) ∷ [])).met
unfolding read_over treated combo_closes summed_form is_positive_sum least key_bounds variables
open_order zero d lt = λ _. first-split
open_order (suc zero) d lt = λ is. absurd (cc)
open_order (suc (suc zero)) d lt = λ _. second-split
open_order (suc (suc (suc zero))) d lt = λ is. absurd (cc)
open_order (suc (suc (suc (suc zero)))) d lt = λ is. absurd (cc)
open_order (suc (suc (suc (suc (suc k))))) d lt = absurd (omega (arith, lt))

check_open : IsOpenTree not_zero 2 (two_splits (pos 4)) (side_term 0 (pos 1) ∷ [])
unfolding read_over treated combo_closes summed_form is_positive_sum least key_bounds variables
check_open = record {
  search = record { no_rest = refl; no_terms = refl; in_order = open_order };
  inner = refl;
  no_boxes = refl;
  left_last = left_last-from_test (two_splits (pos 4)) refl;
  first = lower-undecided;
}

-- another cut is out of order
check_out_of_order : ¬ IsOpenTree not_zero 2 (two_splits (pos 3)) (side_term 0 (pos 1) ∷ [])
unfolding read_over treated combo_closes summed_form is_positive_sum step lowest_corner cut upper_cut lower_cut least
    greatest key_bounds variables
check_out_of_order h =
    let order : Some (Split 0 (pos 4)) ≡ Some (Split 0 (pos 3)) =
    (h.search.in_order 2 no_met (omega arith) refl).in_order in
    let same : pos 4 ≡ pos 3 = cc in
    absurd (omega (arith, ints, same))

-- a box behind the first Left may be closed: `v0 - v1 - v2 <= -1` over 0 to 9 and 0 to 2 has no point with v0 above 3
abbrev below_atom : PlainKeyAtom
below_atom =
    atom (record { var = 0; coef = pos 1 } ∷ record { var = 1; coef = negsuc 0 } ∷ record { var = 2; coef = negsuc 0 } ∷ [])
    Le (negsuc 0)

abbrev below : List PlainKeyAtom
below =
    atom (variable 0) Le (pos 9) ∷ atom (variable 0) Ge (pos 0) ∷ below_atom ∷ atom (variable 1) Le (pos 2) ∷ atom
    (variable 1) Ge (pos 0) ∷ atom (variable 2) Le (pos 2) ∷ atom (variable 2) Ge (pos 0) ∷ []

below-undecided : IsUndecided below (root_box below)
unfolding combo_closes fixed_closes summed_form is_positive_sum is_empty least greatest lowest_corner variables
    key_bounds
below-undecided = undecided below (root_box below) 2 below_atom refl refl refl refl refl refl

below-low_undecided : IsUndecided below (left_half (root_box below) 0 (pos 3))
unfolding combo_closes fixed_closes summed_form is_positive_sum is_empty least greatest lowest_corner variables
    key_bounds
below-low_undecided =
    undecided below (left_half (root_box below) 0 (pos 3)) 2 below_atom refl refl refl refl refl refl

below-split : IsSearchSplit below (root_box below) (Split 0 (pos 3))
unfolding step lowest_corner cut upper_cut lower_cut is_empty least greatest key_bounds variables
below-split = record {
  fair = record { of_key = omega arith; left = refl; right = refl };
  undecided = below-undecided;
  in_order = refl;
}

below-order : All (KeepsOrder below)
    (search_reading below (Split 0 (pos 3) ∷ Left ∷ Combo 1 ∷ []) (on_atom 2 (pos 1) ∷ [])).met
unfolding read_over treated combo_closes summed_form is_positive_sum least key_bounds variables
below-order zero d lt = λ _. below-split
below-order (suc zero) d lt = λ is. absurd (cc)
below-order (suc (suc zero)) d lt = λ is. absurd (cc)
below-order (suc (suc (suc k))) d lt = absurd (omega (arith, lt))

check_closed_after_left : IsOpenTree below 1 (Split 0 (pos 3) ∷ Left ∷ Combo 1 ∷ []) (on_atom 2 (pos 1) ∷ [])
unfolding read_over treated combo_closes summed_form is_positive_sum least key_bounds variables
check_closed_after_left = record {
  search = record { no_rest = refl; no_terms = refl; in_order = below-order };
  inner = refl;
  no_boxes = refl;
  left_last = left_last-from_test (Split 0 (pos 3) ∷ Left ∷ Combo 1 ∷ []) refl;
  first = below-low_undecided;
}

-- a box that the sum of two closes isn't split: `v0 - v1 <= -1` and `v0 - v1 >= 1` over wide bounds
abbrev apart : List PlainKeyAtom
apart =
    atom (variable 0) Le (pos 2147483647) ∷ atom (variable 0) Ge (negsuc 2147483647) ∷ atom difference Le (negsuc 0) ∷
    atom difference Ge (pos 1) ∷ atom (variable 1) Le (pos 2147483647) ∷ atom (variable 1) Ge (negsuc 2147483647) ∷ []

check_closed_by_two : ¬ IsOpenTree apart 1 (Split 0 (negsuc 0) ∷ Left ∷ Left ∷ []) []
unfolding read_over treated combo_closes summed_form is_positive_sum least variables key_bounds
check_closed_by_two h =
    (h.search.in_order 0 no_met (omega arith) refl).undecided.not_by_two
    (combo (on_atom 2 (pos 1) ∷ on_atom 3 (pos 1) ∷ []), refl, refl)

-- a tree of one split isn't one of two
check_too_few_splits : ¬ IsOpenTree below 2 (Split 0 (pos 3) ∷ Left ∷ Combo 1 ∷ []) (on_atom 2 (pos 1) ∷ [])
check_too_few_splits h = absurd (omega (arith, h.inner))

-- the upper half is left undecided
check_box_left : ¬ IsOpenTree below 1 (Split 0 (pos 3) ∷ Left ∷ []) []
unfolding read_over treated
check_box_left h = let none = h.no_boxes in absurd (cc)

-- a split stands behind a Left
check_split_after_left : ¬ IsOpenTree below 2 (Split 0 (pos 3) ∷ Left ∷ Split 0 (pos 5) ∷ Left ∷ Left ∷ []) []
check_split_after_left h =
    let inner : true ≡ false = h.left_last 1 2 Left (omega arith) (omega arith) refl in absurd (cc)

-- a box whose lowest corner is a model isn't left: `v0 <= 3`, `v0 >= 3`
three-holds : KeyHolds three (pos 3 ∷ [])
three-holds =
    All-cons (λ a. KeyAtomHolds a (pos 3 ∷ [])) (atom (variable 0) Le (pos 3)) (atom (variable 0) Ge (pos 3) ∷ []) refl
    (All-cons (λ a. KeyAtomHolds a (pos 3 ∷ [])) (atom (variable 0) Ge (pos 3)) [] refl
    (All-nil (λ a. KeyAtomHolds a (pos 3 ∷ []))))

check_model_left : ¬ IsOpenTree three 0 (Left ∷ []) []
unfolding read_over treated lowest_corner key_bounds variables
check_model_left h = h.first.corner_fails three-holds

-- an atom that a split above is by, and a cut that leaves nothing on one side
check_split_twice : ¬ IsFair not_zero above_zero (NeSplit 2)
check_split_twice h = h 0 (record { atom = 0; upper = false }) (omega arith) refl

check_empty_half : ¬ IsFair not_zero (root_box not_zero) (Split 0 (pos 9))
unfolding is_empty key_bounds variables
check_empty_half h = let full = h.right in absurd (cc)

-- ---- a search that refutes

-- `v0 <= v1`, `v0 >= v1` and `v0 != v1` over wide bounds: one split, and the sum of two on each side
abbrev same : List PlainKeyAtom
same =
    atom (variable 0) Le (pos 2147483647) ∷ atom (variable 0) Ge (negsuc 2147483647) ∷ atom difference Le (pos 0) ∷ atom
    difference Ge (pos 0) ∷ atom difference Ne (pos 0) ∷ atom (variable 1) Le (pos 2147483647) ∷ atom (variable 1) Ge
    (negsuc 2147483647) ∷ []

same-undecided : IsUndecided same (root_box same)
unfolding combo_closes fixed_closes summed_form is_positive_sum is_empty least greatest lowest_corner variables
    key_bounds
same-undecided = undecided same (root_box same) 4 (atom difference Ne (pos 0)) refl refl refl refl refl refl

same-split : IsSearchSplit same (root_box same) (NeSplit 4)
unfolding step lowest_corner cut upper_cut lower_cut least greatest key_bounds variables
same-split = record { fair = λ k d lt. absurd (omega arith); undecided = same-undecided; in_order = refl }

same-order : All (KeepsOrder same)
    (search_reading same (NeSplit 4 ∷ Combo 2 ∷ Combo 2 ∷ [])
    (on_atom 3 (pos 1) ∷ side_term 0 (pos 1) ∷ on_atom 2 (pos 1) ∷ side_term 0 (pos 1) ∷ [])).met
unfolding read_over treated combo_closes summed_form is_positive_sum least key_bounds variables
same-order zero d lt = λ _. same-split
same-order (suc zero) d lt = λ is. absurd (cc)
same-order (suc (suc zero)) d lt = λ is. absurd (cc)
same-order (suc (suc (suc k))) d lt = absurd (omega (arith, lt))

check_search : IsSearchTree same (NeSplit 4 ∷ Combo 2 ∷ Combo 2 ∷ [])
    (on_atom 3 (pos 1) ∷ side_term 0 (pos 1) ∷ on_atom 2 (pos 1) ∷ side_term 0 (pos 1) ∷ [])
unfolding read_over treated combo_closes summed_form is_positive_sum least key_bounds variables
check_search = record { no_rest = refl; no_terms = refl; in_order = same-order }

-- it leaves no box
check_all_closed : undecided_boxes same (NeSplit 4 ∷ Combo 2 ∷ Combo 2 ∷ [])
    (on_atom 3 (pos 1) ∷ side_term 0 (pos 1) ∷ on_atom 2 (pos 1) ∷ side_term 0 (pos 1) ∷ []) ≡ []
unfolding read_over treated combo_closes summed_form is_positive_sum least key_bounds variables
check_all_closed = refl

-- ---- room

-- ten times ten points
check_room : room (over 9 9 []) ≡ 100
unfolding room key_bounds variables
check_room = refl

-- `v0 = v1` and `v0 != 0` over 0 to 1: four points, twice
check_room_doubled : room (atom (variable 0) Le (pos 1) ∷ atom (variable 0) Ge (pos 0) ∷ atom (variable 0) Ne (pos 0) ∷
    atom difference Eq (pos 0) ∷ atom (variable 1) Le (pos 1) ∷ atom (variable 1) Ge (pos 0) ∷ []) ≡ 8
unfolding room key_bounds variables
check_room_doubled = refl

-- no point lies where the sides cross
check_no_room : room (atom (variable 0) Le (pos 3) ∷ atom (variable 0) Ge (pos 4) ∷ []) ≡ 0
unfolding room key_bounds variables
check_no_room = refl
