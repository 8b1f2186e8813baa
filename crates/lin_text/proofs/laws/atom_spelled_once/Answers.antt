-- A text spells one canonical atom.
use Rattle.lin_text.proofs.KeyAtomOnce.{atom_once}
use Rattle.lin_text.proofs.laws.atom_spelled_once.Goals as goal

pub returns : goal.returns
returns c = atom_once
