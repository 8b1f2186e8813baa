use Rattle.slicer.proofs.ExistenceLemmas.{AreSlices-exist}
use Rattle.slicer.proofs.laws.slices_exist.Goals as goal

pub returns : goal.returns
returns c = AreSlices-exist
