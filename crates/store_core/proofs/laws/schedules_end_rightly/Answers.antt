use Rattle.store_core.proofs.ScheduleLemmas.{schedules_end}
use Rattle.store_core.proofs.laws.schedules_end_rightly.Goals as goal

pub returns : goal.returns
returns c = schedules_end c.cores_take_turns.ensures c.entries_stay.ensures c.flights_stay_apart.ensures
