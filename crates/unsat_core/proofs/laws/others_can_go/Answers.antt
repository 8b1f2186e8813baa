use Rattle.unsat_core.proofs.BoundsLeft.{others-go}
use Rattle.unsat_core.proofs.laws.others_can_go.Goals as goal

pub returns : goal.returns
returns c = others-go
