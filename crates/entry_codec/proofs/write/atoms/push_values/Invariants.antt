use Rattle.std.proofs.Common.{◌≡◌, ◌++◌, take}
use Rattle.entry_codec.specs.Fields.{value}
use Rattle.entry_codec.specs.Grammar.{spell_list}
use Rattle.entry_codec.proofs.write.atoms.push_values.Given as goal

-- the values so far are added
abbrev pub invariant-loop-each : goal.invariant-loop-each
invariant-loop-each l = l.out.items ≡ l.fn.out.items ++ spell_list (λ before. value) (take l.each-index l.values)
