use Rattle.std.proofs.Common.{arith}
use Rattle.turn_lock.proofs.TakingLemmas.{draws}
use Rattle.turn_lock.proofs.steps.draw.Goals as goal

pub fetch_add-requires : goal.fetch_add-requires
fetch_add-requires g c = (
  c.requires.of_lock.0,
  (let w = c.requires.of_lock.1 in omega arith),
  draws _ _ _ _ _ _ _ c.requires.idle.0 c.requires.idle.1,
)
