use Rattle.std.proofs.Common.{◌≡◌, ◌++◌, length, drop}
use Rattle.entry_codec.specs.Grammar.{spell_list}
use Rattle.entry_codec.specs.Nodes.{node, nodes_of}
use Rattle.entry_codec.specs.Writing.{NamesShortSides, taken_by_all}
use Rattle.entry_codec.proofs.write.nodes.push_nodes.Given as goal

-- what was added is in front of all, the nodes left take the terms left, and where the sides of these have short
-- numbers, those of all have
abbrev pub invariant-loop-each : goal.invariant-loop-each
invariant-loop-each l = record {
  added : l.out.items ++ spell_list (λ before. node) (nodes_of (drop l.each-index l.nodes) l.rest)
      ≡ l.fn.out.items ++ spell_list (λ before. node) (nodes_of l.nodes l.fn.terms);
  enough : taken_by_all (drop l.each-index l.nodes) ≡ length l.rest;
  short : NamesShortSides l.rest → NamesShortSides l.fn.terms;
}
