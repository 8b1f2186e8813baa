use Rattle.std.proofs.Common.{◌≡◌, take}
use Rattle.std.specs.Prelude.{map}
use Rattle.key_tree.specs.Asked.{atom_hash}
use Rattle.key_tree.proofs.asked.Asked.of.Given as goal

-- the hashes so far
abbrev pub invariant-loop-atom : goal.invariant-loop-atom
invariant-loop-atom l = l.hashes.items ≡ map atom_hash (take l.atom-index l.key)
