use Rattle.refutation.proofs.RoomLemmas.{open-below_room}
use Rattle.refutation.proofs.laws.open_trees_are_below_room.Goals as goal

pub returns : goal.returns
returns c = open-below_room
