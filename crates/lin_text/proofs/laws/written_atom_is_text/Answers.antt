use Rattle.lin_text.proofs.KeyAtomWritten.{written_text}
use Rattle.lin_text.proofs.laws.written_atom_is_text.Goals as goal

pub returns : goal.returns
returns c = written_text
