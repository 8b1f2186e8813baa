use Rattle.atom_implies.proofs.ImpliedLemmas.{CoveredKeysHold-lem}
use Rattle.atom_implies.proofs.laws.covered_keys_hold.Goals as goal

pub returns : goal.returns
returns c = CoveredKeysHold-lem
