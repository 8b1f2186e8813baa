use Rattle.std.proofs.Common.{take}
use Rattle.std.specs.List.{list_any}
use Rattle.unsat_core.specs.Named.{Raises}
use Rattle.unsat_core.specs.Renumbered.{node_names}
use Rattle.unsat_core.proofs.named.raise_by_nodes.Given as goal

-- the flags of what the nodes so far name are raised
abbrev pub invariant-loop-node : goal.invariant-loop-node
invariant-loop-node l = Raises (λ i. list_any (node_names i) (take l.node-index l.nodes)) l.fn.flags l.flags
