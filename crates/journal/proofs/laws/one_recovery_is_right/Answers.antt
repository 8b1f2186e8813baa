use Rattle.journal.proofs.WholeLemmas.{one_recovery}
use Rattle.journal.proofs.laws.one_recovery_is_right.Goals as goal

pub returns : goal.returns
returns c = one_recovery c.bytes_have_one_answer.ensures c.one_frame_stands.ensures
