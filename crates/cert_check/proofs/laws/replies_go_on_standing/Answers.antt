use Rattle.cert_check.proofs.StandingLemmas.{replies_go_on}
use Rattle.cert_check.proofs.laws.replies_go_on_standing.Goals as goal

pub returns : goal.returns
returns c = replies_go_on
