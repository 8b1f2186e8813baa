-- Lines that spell a condition have no fault.
use Rattle.lin_text.proofs.NoFault.{Spell-no_fault}
use Rattle.lin_text.proofs.laws.spelled_lines_have_no_fault.Goals as goal

pub returns : goal.returns
returns c = Spell-no_fault
