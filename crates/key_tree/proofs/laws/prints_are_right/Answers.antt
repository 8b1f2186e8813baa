use Rattle.key_tree.proofs.PrintLemmas.{prints_are_right}
use Rattle.key_tree.proofs.laws.prints_are_right.Goals as goal

pub returns : goal.returns
returns c = prints_are_right c.table_is_right.ensures
