use Rattle.std.proofs.Common.{◌≡◌, false, None, cond, sym, ap, ◌∙◌, Bool, arith}
use Rattle.refutation.specs.Cut.{chosen_cut, has_sides, lower_that_counts, upper_that_counts}
use Rattle.box_solver.proofs.CutCases.{cut_is, cut-absent, coefficient-absent}
use Rattle.box_solver.proofs.cut_by.cut.Goals.{then-var-ge64-via-then-var-ge64, then-var-ge64-via-else-var-ge64+then-not-has_sides}
use Rattle.box_solver.proofs.cut_by.cut.Goals as goal

pub returns-then-var-ge64-clause-cut : goal.returns-then-var-ge64-clause-cut
returns-then-var-ge64-clause-cut c = elim c.then-var-ge64.branch [
  | then-var-ge64-via-then-var-ge64 w ↦ sym (cut-absent c.args.bounds.now c.args.atom.now c.args.var
      (coefficient-absent c.args.atom.now.form c.args.var c.form-form.ensures.canonical.form.variables.in_range
      w.if-var-ge64.true))
  | then-var-ge64-via-else-var-ge64+then-not-has_sides w ↦ sym (cut_is c.args.bounds.now c.args.atom.now c.args.var
      ∙ ap (λ (test : Bool). cond test (chosen_cut (lower_that_counts c.args.bounds.now c.args.atom.now c.args.var)
      (upper_that_counts c.args.bounds.now c.args.atom.now c.args.var)) None)
      (ap (has_sides c.args.bounds.now) (sym c.form-form.ensures.value) ∙ sym w.has_sides.ensures
      ∙ w.if-not-has_sides.true))
]
