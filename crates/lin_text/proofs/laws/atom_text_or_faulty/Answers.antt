use Rattle.lin_text.proofs.AtomSpelledOrFault.{text_or_faulty}
use Rattle.lin_text.proofs.laws.atom_text_or_faulty.Goals as goal

pub returns : goal.returns
returns c = text_or_faulty
