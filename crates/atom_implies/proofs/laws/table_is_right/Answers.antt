use Rattle.atom_implies.proofs.TableLemmas.{table_is_right}
use Rattle.atom_implies.proofs.laws.table_is_right.Goals as goal

pub returns : goal.returns
returns c = table_is_right
