use Rattle.cert_check.proofs.EventLemmas.{places_go_on}
use Rattle.cert_check.proofs.laws.places_stay.Goals as goal

pub returns : goal.returns
returns c = places_go_on
