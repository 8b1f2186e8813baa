use Rattle.cert_check.proofs.EventLemmas.{legal_tells}
use Rattle.cert_check.proofs.laws.legal_logs_tell.Goals as goal

pub returns : goal.returns
returns c = legal_tells
