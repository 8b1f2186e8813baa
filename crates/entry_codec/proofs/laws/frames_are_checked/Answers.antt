use Rattle.entry_codec.proofs.KeyLemmas.{frames_checked}
use Rattle.entry_codec.proofs.laws.frames_are_checked.Goals as goal

pub returns : goal.returns
returns c = frames_checked
