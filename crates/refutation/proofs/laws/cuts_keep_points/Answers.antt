use Rattle.refutation.proofs.CutPoints.{keep_points}
use Rattle.refutation.proofs.laws.cuts_keep_points.Goals as goal

pub returns : goal.returns
returns c = keep_points
