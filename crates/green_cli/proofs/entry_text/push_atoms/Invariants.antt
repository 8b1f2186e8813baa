use Rattle.std.proofs.Common.{◌≡◌, ◌++◌, take, flat_map}
use Rattle.green_cli.specs.DumpText.{atom_line}
use Rattle.green_cli.proofs.entry_text.push_atoms.Given as goal

-- the atoms so far are written
abbrev pub invariant-loop-atom : goal.invariant-loop-atom
invariant-loop-atom l = l.out.items ≡ l.fn.out.items ++ flat_map (atom_line l.word) (take l.atom-index l.atoms)
