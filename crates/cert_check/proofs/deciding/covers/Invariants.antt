use Rattle.std.proofs.Common.{ℕ, ◌+◌, ◌*◌, ◌<◌, ◌≤◌, Any, get_or, length}
use Rattle.lin_model.specs.KeyAtom.{PlainKeyAtom}
use Rattle.atom_implies.specs.Implies.{Implies}
use Rattle.cert_check.proofs.deciding.covers.Given as goal

abbrev pub invariant-loop-atom : goal.invariant-loop-atom
invariant-loop-atom g l = record {
  all : (k : ℕ) (d : PlainKeyAtom) → k < l.atom-index → Any (λ a. Implies a (get_or l.other k d)) l.key;
  cost : l.steps ≤ l.initial.steps + length l.key * l.atom-index;
}
