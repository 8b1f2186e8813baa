use Rattle.cert_check.proofs.FlightLemmas.{flights_apart}
use Rattle.cert_check.proofs.laws.flights_stay_apart.Goals as goal

pub returns : goal.returns
returns c = flights_apart
