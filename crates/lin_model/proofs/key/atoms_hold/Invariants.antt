use Rattle.std.proofs.Common.{ℕ, ◌<◌, get_or}
use Rattle.lin_model.specs.KeyAtom.{PlainKeyAtom, KeyAtomHolds}
use Rattle.lin_model.proofs.key.atoms_hold.Given as goal

-- the atoms so far hold
abbrev pub invariant-loop-atom : goal.invariant-loop-atom
invariant-loop-atom l = (k : ℕ) (d : PlainKeyAtom) → k < l.atom-index → KeyAtomHolds (get_or l.atoms k d) l.values
