use Rattle.std.proofs.Common.{◌≡◌}
use Rattle.turn_lock.proofs.steps.wait.Given as goal

-- the seat is as it was
abbrev pub invariant-loop : goal.invariant-loop
invariant-loop g l = (l.place.me ≡ l.fn.place.me) × (l.place.table_id ≡ l.fn.place.table_id)
