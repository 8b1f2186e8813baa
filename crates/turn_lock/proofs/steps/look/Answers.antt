use Rattle.std.proofs.Common.{arith}
use Rattle.turn_lock.proofs.TakingLemmas.{looks}
use Rattle.turn_lock.proofs.steps.look.Goals as goal

pub load-requires : goal.load-requires
load-requires g c = let w = c.requires.waits in
    (c.requires.of_lock.0, (let n = c.requires.of_lock.1 in omega arith), looks _ _ _ _ _ _ _ w.0 w.1 w.3)
