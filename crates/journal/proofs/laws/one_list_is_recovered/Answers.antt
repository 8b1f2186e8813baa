use Rattle.journal.proofs.RunLemmas.{one_list}
use Rattle.journal.proofs.laws.one_list_is_recovered.Goals as goal

pub returns : goal.returns
returns c = one_list c.one_frame_stands.ensures
