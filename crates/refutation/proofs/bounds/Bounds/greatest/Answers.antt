use Rattle.std.proofs.Common.{◌∙◌, arith, ap, length, List}
use Rattle.lin_model.specs.declared.form.FormTerm.{FormTerm}
use Rattle.refutation.specs.Bounds.{greatest}
use Rattle.refutation.proofs.BoundsLemmas.{AscendsBelow64-few, greatest-swapped}
use Rattle.refutation.proofs.bounds.Bounds.greatest.Goals as goal

pub least_within-requires-clause-few : goal.least_within-requires-clause-few
least_within-requires-clause-few c =
    omega (arith, AscendsBelow64-few c.args.form.now c.requires, ap length c.terms.ensures)

pub returns : goal.returns
returns c =
    c.least_within.ensures ∙ greatest-swapped c.terms.result.now c.self.inside.lo c.self.inside.hi
    ∙ ap (λ (f : List FormTerm). greatest f (record { lower = c.self.inside.lo; upper = c.self.inside.hi }))
    c.terms.ensures ∙ ap (greatest c.args.form.now) c.self.view_is
