use Rattle.std.proofs.Common.{length}
use Rattle.box_solver.proofs.LeftLemmas.{LeavesOpen}
use Rattle.box_solver.proofs.write.leave_open.Given as goal

-- a Left for each box whose turn is off the trail
abbrev pub invariant-loop-in_second_half : goal.invariant-loop-in_second_half
invariant-loop-in_second_half l = LeavesOpen l.initial.region l.region

abbrev pub decreases-loop-in_second_half : goal.decreases-loop-in_second_half
decreases-loop-in_second_half l = length l.region.trail
