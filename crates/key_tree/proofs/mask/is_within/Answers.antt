use Rattle.key_tree.proofs.MaskLemmas.{within_or}
use Rattle.key_tree.proofs.mask.is_within.Goals as goal

pub returns : goal.returns
returns c = within_or c.args.part c.args.whole
