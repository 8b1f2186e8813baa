use Rattle.lin_text.proofs.KeyAtomOnce.{atom_text_once}
use Rattle.lin_text.proofs.laws.atom_text_once.Goals as goal

pub returns : goal.returns
returns c = atom_text_once
