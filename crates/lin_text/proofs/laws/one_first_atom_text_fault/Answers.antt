use Rattle.lin_text.proofs.AtomSpelledOrFault.{one_text_fault}
use Rattle.lin_text.proofs.laws.one_first_atom_text_fault.Goals as goal

pub returns : goal.returns
returns c = one_text_fault
