use Rattle.cert_check.proofs.SettleLemmas.{replies_settle}
use Rattle.cert_check.proofs.laws.replies_settle.Goals as goal

pub returns : goal.returns
returns c = replies_settle c.deciding_entries_settle.ensures
