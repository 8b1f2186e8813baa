use Rattle.cert_check.proofs.FirstLemmas.{first_places}
use Rattle.cert_check.proofs.laws.first_places_exist.Goals as goal

pub returns : goal.returns
returns c = first_places c.order_is_total.ensures c.table_is_right.ensures
