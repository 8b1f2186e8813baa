use Rattle.cert_check.proofs.RunLemmas.{joined_asks}
use Rattle.cert_check.proofs.laws.asks_join.Goals as goal

pub returns : goal.returns
returns c = joined_asks
