-- What is written is spelled, also within a text.
use Rattle.lin_text.proofs.ReadBackWithin.{Spells-within}
use Rattle.lin_text.proofs.laws.written_is_spelled_within.Goals as goal

pub returns : goal.returns
returns c = Spells-within
