use Rattle.std.proofs.Common.{◌≡◌, ◌++◌, drop}
use Rattle.green_cli.specs.DumpText.{nodes_text}
use Rattle.green_cli.proofs.node_text.push_nodes.Given as goal

-- what is written and what is left make the whole
abbrev pub invariant-loop-node : goal.invariant-loop-node
invariant-loop-node l =
    l.out.items ++ nodes_text (drop l.node-index l.nodes) l.terms ≡ l.fn.out.items ++ nodes_text l.nodes l.fn.terms
