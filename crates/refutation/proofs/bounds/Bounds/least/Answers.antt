use Rattle.std.proofs.Common.{arith, ap, length}
use Rattle.refutation.proofs.BoundsLemmas.{AscendsBelow64-few}
use Rattle.refutation.proofs.bounds.Bounds.least.Goals as goal

pub least_within-requires-clause-few : goal.least_within-requires-clause-few
least_within-requires-clause-few c =
    omega (arith, AscendsBelow64-few c.args.form.now c.requires, ap length c.terms.ensures)
