use Rattle.cert_check.proofs.RunLemmas.{flights_counted}
use Rattle.cert_check.proofs.laws.flights_are_counted.Goals as goal

pub returns : goal.returns
returns c = flights_counted
