use Rattle.journal.proofs.RunLemmas.{fronts}
use Rattle.journal.proofs.laws.fronts_are_recovered.Goals as goal

pub returns : goal.returns
returns c = fronts c.one_frame_stands.ensures
