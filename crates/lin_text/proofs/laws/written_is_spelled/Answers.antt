-- What is written is spelled.
use Rattle.lin_text.proofs.ReadBack.{Spells-written}
use Rattle.lin_text.proofs.laws.written_is_spelled.Goals as goal

pub returns : goal.returns
returns c = Spells-written
