use Rattle.cert_check.proofs.SettleLemmas.{decides_own}
use Rattle.cert_check.proofs.ShrinkLemmas.{shrunk_decide}
use Rattle.cert_check.proofs.laws.shrunk_entries_decide.Goals as goal

pub returns : goal.returns
returns c = shrunk_decide decides_own
