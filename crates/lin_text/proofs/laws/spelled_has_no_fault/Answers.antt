-- What is spelled has no fault.
use Rattle.lin_text.proofs.NoFault.{Spells-no_fault}
use Rattle.lin_text.proofs.laws.spelled_has_no_fault.Goals as goal

pub returns : goal.returns
returns c = Spells-no_fault
