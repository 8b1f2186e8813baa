use Rattle.unsat_core.proofs.ChosenLemmas.{IsKey-chosen}
use Rattle.unsat_core.proofs.core_laws.chosen_are_keys.Goals as goal

pub returns : goal.returns
returns c = IsKey-chosen c.order_is_total.ensures
