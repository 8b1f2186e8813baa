use Rattle.std.proofs.Common.{arith}
use Rattle.turn_lock.proofs.GivingLemmas.{passes}
use Rattle.turn_lock.proofs.steps.pass.Goals as goal

pub fetch_add-requires : goal.fetch_add-requires
fetch_add-requires g c = let h = c.requires.hand in (
  c.requires.of_lock.0,
  (let n = c.requires.of_lock.1 in omega arith),
  passes _ _ _ _ _ _ _ h.0 c.requires.turn h.1 h.2 h.3,
)
