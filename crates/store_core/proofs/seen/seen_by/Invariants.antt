use Rattle.std.proofs.Common.{length}
use Rattle.store_core.proofs.SeenLemmas.{IsFront}
use Rattle.store_core.proofs.seen.seen_by.Given as goal

-- behind what is left the seat has no event
abbrev pub invariant-loop-front : goal.invariant-loop-front
invariant-loop-front l = IsFront l.events l.front l.seat

abbrev pub decreases-loop-front : goal.decreases-loop-front
decreases-loop-front l = length l.front
