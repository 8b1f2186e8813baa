-- Answers of the search on small worked values, as the checker computes them.
use Rattle.std.proofs.Common.{◌≡◌, ◌≤◌, ◌^◌, ℤ, pos, true, false, List, [], ◌∷◌, unsigned_abs, refl, arith}
use Rattle.std.proofs.lemmas.Int.{ints}
use Rattle.std.proofs.lemmas.List.Elements.{All-nil, All-cons}
use Rattle.lin_model.specs.declared.op.Op.TheVariants.{Le, Ge}
use Rattle.lin_model.specs.KeyAtom.{PlainKeyAtom, KeyAtomHolds}
use Rattle.lin_model.specs.Key.{KeyHolds}
use Rattle.lin_model.specs.Bounded.{variable}
use Rattle.refutation.specs.declared.node.Node.TheVariants.{Split, Empty, Left}
use Rattle.refutation.specs.Bounds.{variables, key_bounds, is_empty}
use Rattle.refutation.specs.Box.{root_box}
use Rattle.refutation.specs.Reading.{read_over, treated}
use Rattle.refutation.specs.SearchOrder.{lowest_corner}
use Rattle.refutation.specs.SearchTree.{KeepsOrder}
use Rattle.box_solver.specs.declared.found.Found.TheVariants.{Model, Refuted, Spent}
use Rattle.box_solver.specs.Answer.{IsAnswer}

-- `v0 <= hi`, `v0 >= lo`
abbrev from_to : ℤ → ℤ → List PlainKeyAtom
from_to lo hi =
    record { form = variable 0; op = Le; constant = hi } ∷ record { form = variable 0; op = Ge; constant = lo } ∷ []

from_three-holds : KeyHolds (from_to (pos 3) (pos 9)) (pos 3 ∷ [])
from_three-holds =
    All-cons (λ a. KeyAtomHolds a (pos 3 ∷ [])) (record { form = variable 0; op = Le; constant = pos 9 })
    (record { form = variable 0; op = Ge; constant = pos 3 } ∷ []) refl
    (All-cons (λ a. KeyAtomHolds a (pos 3 ∷ [])) (record { form = variable 0; op = Ge; constant = pos 3 }) [] refl
    (All-nil (λ a. KeyAtomHolds a (pos 3 ∷ []))))

-- over 3 to 9 the lowest corner is the model, without any split
check_model : IsAnswer (from_to (pos 3) (pos 9)) 1 (Model (record { items = pos 3 ∷ [] })) [] []
unfolding read_over lowest_corner key_bounds variables
check_model = record {
  one_each = refl;
  small = All-cons (λ n. unsigned_abs n ≤ 2 ^ 32) (pos 3) [] (omega arith) (All-nil (λ n. unsigned_abs n ≤ 2 ^ 32));
  holds = from_three-holds;
  search = record { no_rest = refl; no_terms = refl; in_order = All-nil (KeepsOrder (from_to (pos 3) (pos 9))) };
  no_left = refl;
  few = omega arith;
  corner = refl;
}

-- another point that satisfies the key isn't the answer, nor is a value too many
check_other_point : ¬ IsAnswer (from_to (pos 3) (pos 9)) 1 (Model (record { items = pos 4 ∷ [] })) [] []
unfolding read_over lowest_corner key_bounds variables
check_other_point h = let corner = h.corner in let same : pos 4 ≡ pos 3 = cc in absurd (omega (arith, ints, same))

check_value_too_many : ¬ IsAnswer (from_to (pos 3) (pos 9)) 1 (Model (record { items = pos 3 ∷ pos 0 ∷ [] })) [] []
check_value_too_many h = absurd (omega (arith, h.one_each))

-- over 4 to 3 the box is empty
abbrev empty_key : List PlainKeyAtom
empty_key = from_to (pos 4) (pos 3)

check_refuted : IsAnswer empty_key 1 Refuted (Empty ∷ []) []
unfolding read_over treated is_empty key_bounds variables
check_refuted = record {
  refutes = record { no_rest = refl; no_terms = refl; no_boxes = refl };
  search = record {
    no_rest = refl;
    no_terms = refl;
    in_order = All-cons (KeepsOrder empty_key) (record { node = Empty; box = root_box empty_key }) []
        (λ inner. absurd (cc)) (All-nil (KeepsOrder empty_key));
  };
  few = omega arith;
}

-- which over 3 to 9 refutes nothing
check_not_refuted : ¬ IsAnswer (from_to (pos 3) (pos 9)) 1 Refuted (Empty ∷ []) []
unfolding read_over treated is_empty key_bounds variables
check_not_refuted h = let no_rest = h.refutes.no_rest in absurd (cc)

-- a box whose corner is a model is never left open
check_not_spent : ¬ IsAnswer (from_to (pos 3) (pos 9)) 0 Spent (Left ∷ []) []
unfolding lowest_corner key_bounds variables read_over treated
check_not_spent h = h.open_tree.first.corner_fails (from_three-holds)

-- nor is one in which a box behind the first that is left is closed
check_closed_after_left : ¬ IsAnswer (from_to (pos 3) (pos 9)) 1 Spent (Split 0 (pos 3) ∷ Left ∷ Empty ∷ []) []
check_closed_after_left h =
    let left : false ≡ true = h.left_alone 1 2 Left (omega arith) (omega arith) refl in absurd (cc)
