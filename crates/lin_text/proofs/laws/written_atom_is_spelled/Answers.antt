-- What is written for a canonical atom spells it.
use Rattle.lin_text.proofs.KeyAtomWritten.{written_atom}
use Rattle.lin_text.proofs.laws.written_atom_is_spelled.Goals as goal

pub returns : goal.returns
returns c = written_atom
