use Rattle.std.proofs.Common.{ℕ, ◌<◌, ◌≤◌, length, get_or}
use Rattle.lin_model.specs.KeyAtom.{PlainKeyAtom}
use Rattle.atom_implies.specs.Implies.{Implies}
use Rattle.canoniser.proofs.implied.is_implied.Given as goal

-- none of those behind implies it
abbrev pub invariant-loop-k : goal.invariant-loop-k
invariant-loop-k g l = (j : ℕ) (d : PlainKeyAtom) → l.k ≤ j → j < length l.atoms → ¬ Implies (get_or l.atoms j d) l.atom
