use Rattle.slicer.proofs.PartitionLemmas.{AreSlices-partition}
use Rattle.slicer.proofs.laws.slices_are_a_partition.Goals as goal

pub returns : goal.returns
returns c = AreSlices-partition
