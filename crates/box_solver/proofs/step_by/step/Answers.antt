use Rattle.std.proofs.Common.{◌≡◌, ℕ, ℤ, Some, None, List, length, get_or, ap, sym, ◌∙◌, subst, arith}
use Rattle.lin_model.specs.KeyAtom.{PlainKeyAtom}
use Rattle.lin_model.specs.Facts.{key-narrow}
use Rattle.refutation.specs.SearchOrder.{first_failing, step}
use Rattle.combos.specs.Found.{box_of}
use Rattle.box_solver.specs.Steps.{IsNumberOf}
use Rattle.box_solver.proofs.AskedLemmas.{step-of_none, step-of_some}
use Rattle.box_solver.proofs.CornerLemmas.{corner-length}
use Rattle.box_solver.proofs.FairLemmas.{step-fair}
use Rattle.box_solver.proofs.OrderLemmas.{step-none, step-fails}
use Rattle.box_solver.proofs.step_by.step.Goals as goal

pub first_failing-requires-clause-wide : goal.first_failing-requires-clause-wide
first_failing-requires-clause-wide c =
    let same = ap length (c.as_slice.ensures.value ∙ c.lowest_corner-corner.ensures.values) in
    omega (arith, same, corner-length c.args.key.now c.args.bounds.now)

none : (c : goal.After-from_residual) → step c.args.key.now (box_of c.args.bounds.now c.args.sides.now) ≡ None
none c =
    step-of_none c.args.key.now (box_of c.args.bounds.now c.args.sides.now)
    (subst (λ (point : List ℤ). IsNumberOf c.args.key.now (first_failing 0 c.args.key.now point) None)
    (c.as_slice.ensures.value ∙ c.lowest_corner-corner.ensures.values) (c.in_err-number.ensures {u = tt}))

some : (c : goal.After-node_for) → step c.args.key.now (box_of c.args.bounds.now c.args.sides.now) ≡ Some c.node_for.result
some c =
    let at = c.index-atoms-from.is ∙ ap (λ (xs : List PlainKeyAtom). get_or xs c.from.result c.index-atoms-from.result)
    c.atoms.ensures.atoms ∙ ap (λ (n : ℕ). get_or c.args.key.now n c.index-atoms-from.result) c.from.ensures in
    step-of_some c.args.key.now (box_of c.args.bounds.now c.args.sides.now) c.in_ok-number.number
    c.index-atoms-from.result
    (subst (λ (point : List ℤ). IsNumberOf c.args.key.now (first_failing 0 c.args.key.now point)
    (Some c.in_ok-number.number)) (c.as_slice.ensures.value ∙ c.lowest_corner-corner.ensures.values)
    (c.in_ok-number.ensures {u = tt})) at ∙ ap Some (sym c.node_for.ensures)

pub returns-in_err-number-clause-node : goal.returns-in_err-number-clause-node
returns-in_err-number-clause-node c = c.from_residual.ensures ∙ sym (none c)

pub returns-in_err-number-clause-none : goal.returns-in_err-number-clause-none
returns-in_err-number-clause-none c = (
  λ is. step-none c.args.key.now (box_of c.args.bounds.now c.args.sides.now) (none c),
  λ holds. c.from_residual.ensures,
)

pub returns-clause-node : goal.returns-clause-node
returns-clause-node c = sym (some c)

pub returns-clause-none : goal.returns-clause-none
returns-clause-none c = (
  λ is. absurd (cc),
  λ holds. absurd (step-fails c.args.key.now (box_of c.args.bounds.now c.args.sides.now) c.node_for.result (some c)
      holds),
)

pub returns-clause-fair : goal.returns-clause-fair
returns-clause-fair c =
    step-fair c.cuts_leave_proper_halves.ensures c.args.key.now (box_of c.args.bounds.now c.args.sides.now)
    c.node_for.result (key-narrow c.args.key.now c.atoms.ensures.key) c.requires.boxed c.requires.open (some c)
