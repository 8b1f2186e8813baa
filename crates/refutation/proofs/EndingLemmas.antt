-- How a reading from the key's root box ends, said of the tree.
use Rattle.std.proofs.Common.{◌≡◌, ℕ, false, List, [], ◌∷◌}
use Rattle.std.proofs.Common.{ap, ◌∙◌, subst}
use Rattle.lin_model.specs.KeyAtom.{PlainKeyAtom}
use Rattle.refutation.specs.declared.leaf.LeafTerm.{LeafTerm}
use Rattle.refutation.specs.declared.node.Node.{Node}
use Rattle.refutation.specs.Bounds.{PlainBounds}
use Rattle.refutation.specs.Box.{PlainBox, root_box}
use Rattle.refutation.specs.Endings.{ClosesAll, StopsAt, LeavesBoxes, LeavesMore}
use Rattle.refutation.specs.Reading.{read_over, Refutes, FailsAt, EndsEarly, GoesOn}

-- a walk of these bounds begins with a box that has them
pub one_box : (boxes : List PlainBox) (bounds bounds' : PlainBounds)
    → boxes ≡ record { bounds = bounds; sides = [] } ∷ [] → bounds ≡ bounds'
    → boxes ≡ record { bounds = bounds'; sides = [] } ∷ []
one_box boxes bounds bounds' is same = is ∙ ap (λ (b : PlainBounds). record { bounds = b; sides = [] } ∷ []) same

module _ (key : List PlainKeyAtom) (nodes : List Node) (terms : List LeafTerm) (boxes : List PlainBox)
    (root : boxes ≡ root_box key ∷ []) where
  pub refutes-from : ClosesAll (read_over false key nodes terms boxes) → Refutes key nodes terms
  refutes-from h =
      let at = subst (λ (bs : List PlainBox). ClosesAll (read_over false key nodes terms bs)) root h in
      record { no_rest = at.no_rest; no_terms = at.no_terms; no_boxes = at.no_boxes }

  pub fails-from : (i : ℕ) → StopsAt (read_over false key nodes terms boxes) i → FailsAt key nodes terms i
  fails-from i h =
      let at = subst (λ (bs : List PlainBox). StopsAt (read_over false key nodes terms bs) i) root h in
      record { before = at.before; some_rest = at.some_rest; some_boxes = at.some_boxes }

  pub ends-from : LeavesBoxes (read_over false key nodes terms boxes) → EndsEarly key nodes terms
  ends-from h =
      let at = subst (λ (bs : List PlainBox). LeavesBoxes (read_over false key nodes terms bs)) root h in
      record { no_rest = at.no_rest; some_boxes = at.some_boxes }

  pub goes_on-from : LeavesMore (read_over false key nodes terms boxes) → GoesOn key nodes terms
  goes_on-from h =
      let at = subst (λ (bs : List PlainBox). LeavesMore (read_over false key nodes terms bs)) root h in
      record { no_boxes = at.no_boxes; some_left = at.some_left }
