use Rattle.journal.proofs.PlaceLemmas.{frames_of_saved}
use Rattle.journal.proofs.laws.frames_stand.Goals as goal

pub returns : goal.returns
returns c = frames_of_saved
