use Rattle.std.proofs.Common.{ℕ, ◌-◌, ◌^◌}
use Rattle.slicer.specs.VarSets.{Has, Includes, IsReached}
use Rattle.slicer.proofs.spread.spread.Given as goal

-- the first variables are reached, and only what chains join to them
abbrev pub invariant-loop-next : goal.invariant-loop-next
invariant-loop-next l = record {
  keeps : Includes l.fn.first l.reached;
  only : (v : ℕ) → Has l.reached v → IsReached l.sets l.fn.first v;
}

abbrev pub decreases-loop-next : goal.decreases-loop-next
decreases-loop-next l = 2 ^ 64 - l.reached.bits
