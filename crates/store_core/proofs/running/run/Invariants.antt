use Rattle.store_core.specs.Schedules.{DoesAll, world_of}
use Rattle.store_core.proofs.running.run.Given as goal

-- the steps so far came one after another
abbrev pub invariant-loop-step : goal.invariant-loop-step
invariant-loop-step l = DoesAll l.yielded l.done.items (world_of l.fn.world) (world_of l.world)
