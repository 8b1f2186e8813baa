use Rattle.cert_check.proofs.LogLemmas.{legal_stays}
use Rattle.cert_check.proofs.laws.entries_stay.Goals as goal

pub returns : goal.returns
returns c = legal_stays
