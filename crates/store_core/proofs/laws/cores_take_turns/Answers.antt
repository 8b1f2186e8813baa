use Rattle.store_core.proofs.TurnLemmas.{takes_turns}
use Rattle.store_core.proofs.laws.cores_take_turns.Goals as goal

pub returns : goal.returns
returns c = takes_turns c.logs_go_on.ensures c.legal_logs_tell.ensures c.flights_stay_apart.ensures
