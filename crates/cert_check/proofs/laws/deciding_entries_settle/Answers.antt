use Rattle.cert_check.proofs.SettleLemmas.{deciding_settles}
use Rattle.cert_check.proofs.laws.deciding_entries_settle.Goals as goal

pub returns : goal.returns
returns c = deciding_settles c.covered_keys_hold.ensures c.refuted_keys_have_no_point.ensures
