use Rattle.std.proofs.Common.{arith}
use Rattle.key_tree.proofs.FormLemmas.{hash_of-small}
use Rattle.key_tree.proofs.mask.needs_of.Goals as goal

pub needs_bit-requires : goal.needs_bit-requires
needs_bit-requires c = omega (arith, c.requires, hash_of-small c.args.atom.now.form)
