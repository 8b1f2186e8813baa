use Rattle.std.proofs.Common.{arith}
use Rattle.turn_lock.proofs.GivingLemmas.{counts}
use Rattle.turn_lock.proofs.steps.count_logged.Goals as goal

pub load-requires : goal.load-requires
load-requires g c = (
  c.requires.of_lock.0,
  (let n = c.requires.of_lock.1 in omega arith),
  counts _ _ _ _ _ _ _ c.requires.turn,
)
