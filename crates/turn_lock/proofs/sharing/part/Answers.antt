use Rattle.std.proofs.Common.{arith}
use Rattle.turn_lock.proofs.SharingLemmas.{splits_as}
use Rattle.turn_lock.proofs.sharing.part.Goals as goal

pub split_seat-requires : goal.split_seat-requires
split_seat-requires g c = let n = c.requires.number in (
  c.requires.of_lock.0,
  (let w = c.requires.of_lock.1 in omega arith),
  splits_as _ _ _ _ _ _ _ _ c.requires.idle.0 n.0 n.1,
)
