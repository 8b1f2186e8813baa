use Rattle.cert_check.proofs.LogLemmas.{fronts_legal}
use Rattle.cert_check.proofs.laws.fronts_are_legal.Goals as goal

pub returns : goal.returns
returns c = fronts_legal
