use Rattle.std.proofs.Common.{arith}
use Rattle.turn_lock.proofs.SharingLemmas.{compares}
use Rattle.turn_lock.proofs.steps.compare.Goals as goal

pub load-requires : goal.load-requires
load-requires g c = (c.requires.of_lock.0, (let n = c.requires.of_lock.1 in omega arith), compares _ _ _ _ _ _ _)
