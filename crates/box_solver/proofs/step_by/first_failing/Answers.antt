use Rattle.std.proofs.Common.{◌≤◌, ℕ, subst, sym, arith, List, get_or, length, ap}
use Rattle.lin_model.specs.Form.{form_width}
use Rattle.lin_model.specs.KeyAtom.{PlainKeyAtom}
use Rattle.lin_model.specs.Key.{key_width}
use Rattle.box_solver.proofs.AskedLemmas.{width-at}
use Rattle.box_solver.proofs.step_by.first_failing.Goals as goal

pub holds_at-requires-clause-wide : goal.holds_at-requires-clause-wide
holds_at-requires-clause-wide c =
    let wide = width-at c.atoms-atom-items.result.now c.loop-number.number c.atom-item.result c.loop-number-test.true in
    let same = ap key_width c.atoms-atom-items.ensures.atoms in
    let here = ap (λ (a : PlainKeyAtom). form_width a.form) c.atom-item.is in
    omega (arith, wide, same, here, c.requires.wide)
