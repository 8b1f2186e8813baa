use Rattle.std.proofs.Common.{ℕ, ◌<◌, get_or}
use Rattle.lin_model.specs.KeyAtom.{PlainKeyAtom, KeyAtomHolds}
use Rattle.cert_check.proofs.check.first_failing.Given as goal

abbrev pub invariant-loop-number : goal.invariant-loop-number
invariant-loop-number l = (k : ℕ) (d : PlainKeyAtom) → k < l.number → KeyAtomHolds (get_or l.key k d) l.point
