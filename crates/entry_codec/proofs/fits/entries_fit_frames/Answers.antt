use Rattle.entry_codec.proofs.FitsLaws.{points_fit, small_trees_fit, small_cores_fit}
use Rattle.entry_codec.proofs.fits.entries_fit_frames.Goals as goal

pub returns-clause-points : goal.returns-clause-points
returns-clause-points c = points_fit

pub returns-clause-trees : goal.returns-clause-trees
returns-clause-trees c = small_trees_fit

pub returns-clause-cores : goal.returns-clause-cores
returns-clause-cores c = small_cores_fit
