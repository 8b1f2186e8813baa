use Rattle.cert_check.proofs.RunLemmas.{keeps_replies}
use Rattle.cert_check.proofs.laws.asking_keeps_replies.Goals as goal

pub returns : goal.returns
returns c = keeps_replies
