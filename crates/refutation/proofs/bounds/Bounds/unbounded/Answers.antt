use Rattle.refutation.proofs.BoundsLemmas.{side_missing, AreBounds-missing}
use Rattle.refutation.proofs.bounds.Bounds.unbounded.Goals as goal

pub invariant_of-result : goal.invariant_of-result
invariant_of-result c =
    AreBounds-missing c.missing_sides.result c.missing_sides-2.result c.missing_sides.ensures c.missing_sides-2.ensures

pub returns-clause-lower : goal.returns-clause-lower
returns-clause-lower c = λ v. side_missing c.missing_sides.result 64 v c.missing_sides.ensures

pub returns-clause-upper : goal.returns-clause-upper
returns-clause-upper c = λ v. side_missing c.missing_sides-2.result 64 v c.missing_sides-2.ensures
