use Rattle.cert_check.proofs.EventLemmas.{one_log}
use Rattle.cert_check.proofs.laws.events_determine_logs.Goals as goal

pub returns : goal.returns
returns c = one_log
