use Rattle.std.proofs.Common.{◌-◌, ◌≤◌, length}
use Rattle.key_tree.proofs.position.position_of.Given as goal

-- the position is within the kids
abbrev pub invariant-loop-low : goal.invariant-loop-low
invariant-loop-low l = l.high ≤ length l.fn.kids

abbrev pub decreases-loop-low : goal.decreases-loop-low
decreases-loop-low l = l.high - l.low
