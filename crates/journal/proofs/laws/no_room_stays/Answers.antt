use Rattle.journal.proofs.PlaceLemmas.{no_room}
use Rattle.journal.proofs.laws.no_room_stays.Goals as goal

pub returns : goal.returns
returns c = no_room
