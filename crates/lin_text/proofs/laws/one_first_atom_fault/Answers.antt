use Rattle.lin_text.proofs.AtomSpelledOrFault.{one_fault}
use Rattle.lin_text.proofs.laws.one_first_atom_fault.Goals as goal

pub returns : goal.returns
returns c = one_fault
