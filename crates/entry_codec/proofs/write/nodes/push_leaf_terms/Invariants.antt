use Rattle.std.proofs.Common.{◌≡◌, ◌++◌, take}
use Rattle.entry_codec.specs.Grammar.{spell_list}
use Rattle.entry_codec.specs.Nodes.{leaf_term}
use Rattle.entry_codec.specs.Writing.{NamesShortSides}
use Rattle.entry_codec.proofs.write.nodes.push_leaf_terms.Given as goal

-- the terms so far are added, and their sides have short numbers
abbrev pub invariant-loop-each : goal.invariant-loop-each
invariant-loop-each l = record {
  added : l.out.items ≡ l.fn.out.items ++ spell_list (λ before. leaf_term) (take l.each-index l.terms);
  short : NamesShortSides (take l.each-index l.terms);
}
