use Rattle.key_tree.proofs.PlaceMaskLemmas.{masks_right}
use Rattle.key_tree.proofs.laws.masks_are_right.Goals as goal

pub returns : goal.returns
returns c = masks_right
