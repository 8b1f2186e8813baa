use Rattle.journal.proofs.RunLemmas.{kept_entries}
use Rattle.journal.proofs.laws.kept_entries_are_held.Goals as goal

pub returns : goal.returns
returns c = kept_entries c.one_frame_stands.ensures
