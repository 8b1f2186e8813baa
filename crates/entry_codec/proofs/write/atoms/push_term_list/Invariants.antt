use Rattle.std.proofs.Common.{◌≡◌, ◌++◌, take}
use Rattle.entry_codec.specs.Atoms.{term}
use Rattle.entry_codec.specs.Grammar.{spell_list}
use Rattle.entry_codec.proofs.write.atoms.push_term_list.Given as goal

-- the terms so far are added
abbrev pub invariant-loop-each : goal.invariant-loop-each
invariant-loop-each l = l.out.items ≡ l.fn.out.items ++ spell_list (λ before. term) (take l.each-index l.terms)
