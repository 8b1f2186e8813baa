use Rattle.std.proofs.Common.{◌≡◌, take, map}
use Rattle.unsat_core.specs.Renumbered.{renumbered_node}
use Rattle.unsat_core.proofs.chosen.Chosen.nodes.Given as goal

-- the nodes so far
abbrev pub invariant-loop-node : goal.invariant-loop-node
invariant-loop-node l = l.renumbered.items ≡ map (renumbered_node l.self) (take l.node-index l.nodes)
