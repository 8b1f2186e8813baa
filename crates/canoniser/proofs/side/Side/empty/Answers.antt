use Rattle.canoniser.proofs.GatheredLemmas.{zeros}
use Rattle.canoniser.proofs.side.Side.empty.Goals as goal

pub returns-clause-factors : goal.returns-clause-factors
returns-clause-factors c v = zeros v
