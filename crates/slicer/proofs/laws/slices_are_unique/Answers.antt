use Rattle.slicer.proofs.UniqueLemmas.{AreSlices-unique}
use Rattle.slicer.proofs.laws.slices_are_unique.Goals as goal

pub returns : goal.returns
returns c = AreSlices-unique
