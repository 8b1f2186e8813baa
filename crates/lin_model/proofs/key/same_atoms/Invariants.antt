use Rattle.std.proofs.Common.{◌≡◌, ℕ, ◌<◌, get_or}
use Rattle.lin_model.specs.KeyAtom.{PlainKeyAtom}
use Rattle.lin_model.proofs.key.same_atoms.Given as goal

-- each atom so far is the other's at its place
abbrev pub invariant-loop-k : goal.invariant-loop-k
invariant-loop-k l = (k : ℕ) (d : PlainKeyAtom) → k < l.k → get_or l.a k d ≡ get_or l.b k d
