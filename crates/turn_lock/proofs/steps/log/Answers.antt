use Rattle.std.proofs.Common.{arith}
use Rattle.turn_lock.proofs.GivingLemmas.{logs}
use Rattle.turn_lock.proofs.steps.log.Goals as goal

pub fetch_add-requires : goal.fetch_add-requires
fetch_add-requires g c = let o = c.requires.one_more in (
  c.requires.of_lock.0,
  (let n = c.requires.of_lock.1 in omega arith),
  logs _ _ _ _ _ _ _ o.0 o.1 c.requires.turn o.2 o.3 o.4 o.5,
)
