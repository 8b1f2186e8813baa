use Rattle.canoniser.proofs.RepeatLemmas.{RepeatingKeepsKeys-lem}
use Rattle.canoniser.proofs.laws.repeating_keeps_keys.Goals as goal

pub returns : goal.returns
returns c = RepeatingKeepsKeys-lem c.slices_are_a_partition.ensures
