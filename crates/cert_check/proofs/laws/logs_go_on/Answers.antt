use Rattle.cert_check.proofs.LogLemmas.{logs_go}
use Rattle.cert_check.proofs.laws.logs_go_on.Goals as goal

pub returns : goal.returns
returns c = logs_go
