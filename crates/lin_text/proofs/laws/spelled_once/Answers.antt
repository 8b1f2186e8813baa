-- A text spells one condition.
use Rattle.lin_text.proofs.Unique.{Spells-once}
use Rattle.lin_text.proofs.laws.spelled_once.Goals as goal

pub returns : goal.returns
returns c = Spells-once
