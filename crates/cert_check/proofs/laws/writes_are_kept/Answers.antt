use Rattle.cert_check.proofs.WrittenLemmas.{writes_are_kept}
use Rattle.cert_check.proofs.laws.writes_are_kept.Goals as goal

pub returns : goal.returns
returns c = writes_are_kept
