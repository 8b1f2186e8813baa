use Rattle.canoniser.proofs.ExistenceLemmas.{keys_exist}
use Rattle.canoniser.proofs.laws.keys_exist.Goals as goal

pub returns : goal.returns
returns c = keys_exist c.order_is_total.ensures c.table_is_right.ensures c.slices_are_a_partition.ensures
