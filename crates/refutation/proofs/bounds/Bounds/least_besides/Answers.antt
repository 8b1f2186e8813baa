use Rattle.std.proofs.Common.{arith, ap, length}
use Rattle.refutation.proofs.BoundsLemmas.{AscendsBelow64-few}
use Rattle.refutation.proofs.bounds.Bounds.least_besides.Goals as goal

pub least_besides-requires-clause-few : goal.least_besides-requires-clause-few
least_besides-requires-clause-few c =
    omega (arith, AscendsBelow64-few c.args.form.now c.requires, ap length c.terms.ensures)
