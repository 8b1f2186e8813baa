use Rattle.canoniser.proofs.UniqueLemmas.{keys_are_unique}
use Rattle.canoniser.proofs.laws.keys_are_unique.Goals as goal

pub returns : goal.returns
returns c = keys_are_unique c.order_is_total.ensures
