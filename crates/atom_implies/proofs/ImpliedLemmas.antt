-- What holds a key holds every key that it covers.
use Rattle.std.proofs.Common.{get_or, subst}
use Rattle.lin_model.specs.KeyAtom.{PlainKeyAtom, KeyAtomHolds}
use Rattle.atom_implies.specs.Implies.{CoveredKeysHold}
use Rattle.atom_implies.specs.Facts.{HoldsWherever-implied}

-- what holds a key holds every key that it covers
pub CoveredKeysHold-lem : CoveredKeysHold
CoveredKeysHold-lem key query point covers holds k d within =
    let one = covers k d within in
    let atom_holds : KeyAtomHolds one.1 point = subst (λ (a : PlainKeyAtom). KeyAtomHolds a point) one.3
    (holds one.0 one.1 one.2) in
    HoldsWherever-implied one.1 (get_or query k d) one.4 point atom_holds
