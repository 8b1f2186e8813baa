use Rattle.std.proofs.Common.{ℕ, ◌+◌, ◌<◌, ◌≤◌, get_or}
use Rattle.lin_model.specs.KeyAtom.{PlainKeyAtom}
use Rattle.atom_implies.specs.Implies.{Implies}
use Rattle.cert_check.proofs.deciding.is_implied.Given as goal

abbrev pub invariant-loop-atom : goal.invariant-loop-atom
invariant-loop-atom g l = record {
  none : (k : ℕ) (d : PlainKeyAtom) → k < l.atom-index → ¬ Implies (get_or l.atoms k d) l.other;
  cost : l.steps ≤ l.initial.steps + l.atom-index;
}
