use Rattle.lin_text.proofs.AtomNoFault.{spelled_no_fault}
use Rattle.lin_text.proofs.laws.spelled_atom_has_no_fault.Goals as goal

pub returns : goal.returns
returns c = spelled_no_fault
