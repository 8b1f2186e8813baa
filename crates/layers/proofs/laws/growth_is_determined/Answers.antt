use Rattle.layers.proofs.GrowthLemmas.{one_growth}
use Rattle.layers.proofs.laws.growth_is_determined.Goals as goal

pub returns : goal.returns
returns c = one_growth
