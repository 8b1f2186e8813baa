use Rattle.std.proofs.Common.{◌≡◌, ◌++◌, take}
use Rattle.entry_codec.specs.Atoms.{atom}
use Rattle.entry_codec.specs.Grammar.{spell_list}
use Rattle.entry_codec.proofs.write.atoms.push_atoms.Given as goal

-- the atoms so far are added
abbrev pub invariant-loop-each : goal.invariant-loop-each
invariant-loop-each l = l.out.items ≡ l.fn.out.items ++ spell_list atom (take l.each-index l.atoms)
