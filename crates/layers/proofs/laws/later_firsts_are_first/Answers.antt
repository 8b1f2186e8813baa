use Rattle.layers.proofs.FirstLemmas.{later_first}
use Rattle.layers.proofs.laws.later_firsts_are_first.Goals as goal

pub returns : goal.returns
returns c = later_first
