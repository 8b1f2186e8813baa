use Rattle.lin_text.proofs.AtomTextFaults.{text_no_fault}
use Rattle.lin_text.proofs.laws.atom_text_has_no_fault.Goals as goal

pub returns : goal.returns
returns c = text_no_fault
