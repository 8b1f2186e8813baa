use Rattle.std.proofs.Common.{◌-◌}
use Rattle.key_tree.proofs.SearchLemmas.{IsBetween}
use Rattle.key_tree.proofs.tree.KeyTree.search.Given as goal

abbrev pub invariant-loop-low : goal.invariant-loop-low
invariant-loop-low l = IsBetween l.fn.self l.fn.place l.low l.high l.fn.atom

abbrev pub decreases-loop-low : goal.decreases-loop-low
decreases-loop-low l = l.high - l.low
