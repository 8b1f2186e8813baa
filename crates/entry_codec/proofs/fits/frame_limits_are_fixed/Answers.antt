use Rattle.entry_codec.proofs.FitsLaws.{frame_limits}
use Rattle.entry_codec.proofs.fits.frame_limits_are_fixed.Goals as goal

pub returns : goal.returns
returns c = frame_limits
