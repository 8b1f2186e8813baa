use Rattle.lin_text.proofs.AtomSpelledOrFault.{spelled_or_faulty}
use Rattle.lin_text.proofs.laws.atom_spelled_or_faulty.Goals as goal

pub returns : goal.returns
returns c = spelled_or_faulty
