use Rattle.canoniser.proofs.RenumberingLemmas.{RenumberingKeepsKeys-lem}
use Rattle.canoniser.proofs.laws.renumbering_keeps_keys.Goals as goal

pub returns : goal.returns
returns c = RenumberingKeepsKeys-lem c.slices_are_a_partition.ensures
