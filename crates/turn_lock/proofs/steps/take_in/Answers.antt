use Rattle.std.proofs.Common.{arith}
use Rattle.turn_lock.proofs.SharingLemmas.{joins}
use Rattle.turn_lock.proofs.steps.take_in.Goals as goal

pub join_seat-requires : goal.join_seat-requires
join_seat-requires g c = (
  c.requires.of_lock.0,
  c.requires.other,
  c.requires.idle.2,
  (let n = c.requires.of_lock.1 in omega arith),
  joins _ _ _ _ _ _ _ _ c.requires.idle.0 c.requires.idle.1,
)
