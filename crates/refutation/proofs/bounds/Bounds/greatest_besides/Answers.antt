use Rattle.std.proofs.Common.{◌∙◌, arith, ap, length, List}
use Rattle.lin_model.specs.declared.form.FormTerm.{FormTerm}
use Rattle.refutation.specs.Bounds.{greatest}
use Rattle.refutation.specs.Cut.{others}
use Rattle.refutation.proofs.BoundsLemmas.{AscendsBelow64-few}
use Rattle.refutation.proofs.OthersLemmas.{others-swapped}
use Rattle.refutation.proofs.bounds.Bounds.greatest_besides.Goals as goal

pub least_besides-requires-clause-few : goal.least_besides-requires-clause-few
least_besides-requires-clause-few c =
    omega (arith, AscendsBelow64-few c.args.form.now c.requires, ap length c.terms.ensures)

pub returns-clause-value : goal.returns-clause-value
returns-clause-value c =
    c.least_besides.ensures.value ∙ others-swapped c.terms.result.now c.args.var c.self.inside.lo c.self.inside.hi
    ∙ ap (λ (f : List FormTerm). greatest (others f c.args.var)
    (record { lower = c.self.inside.lo; upper = c.self.inside.hi })) c.terms.ensures
    ∙ ap (greatest (others c.args.form.now c.args.var)) c.self.view_is
