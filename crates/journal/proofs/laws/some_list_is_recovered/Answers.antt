use Rattle.journal.proofs.WholeLemmas.{some_list}
use Rattle.journal.proofs.laws.some_list_is_recovered.Goals as goal

pub returns : goal.returns
returns c = some_list c.bytes_have_one_answer.ensures c.ends_exclude_frames.ensures c.frames_are_checked.ensures
