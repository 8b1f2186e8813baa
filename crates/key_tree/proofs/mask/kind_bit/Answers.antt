use Rattle.key_tree.proofs.MaskLemmas.{kind_bit_made}
use Rattle.key_tree.proofs.mask.kind_bit.Goals as goal

pub returns : goal.returns
returns c = kind_bit_made c.args.hash c.args.kind
