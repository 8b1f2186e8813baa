use Rattle.store_core.proofs.OutcomeLemmas.{one_end}
use Rattle.store_core.proofs.laws.schedules_have_one_end.Goals as goal

pub returns : goal.returns
returns c = one_end c.cores_take_turns.ensures c.growth_is_determined.ensures
