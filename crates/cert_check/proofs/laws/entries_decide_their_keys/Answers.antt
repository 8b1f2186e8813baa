use Rattle.cert_check.proofs.SettleLemmas.{decides_own}
use Rattle.cert_check.proofs.laws.entries_decide_their_keys.Goals as goal

pub returns : goal.returns
returns c = decides_own
