use Rattle.refutation.proofs.PositiveSums.{are_positive}
use Rattle.refutation.proofs.laws.combinations_are_positive.Goals as goal

pub returns : goal.returns
returns c = are_positive
