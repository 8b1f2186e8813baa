use Rattle.std.proofs.Common.{ℕ, ◌<◌, pos, get_or}
use Rattle.lin_model.specs.Terms.{PlainVar}
use Rattle.lin_model.specs.Truth.{InBounds}
use Rattle.lin_model.proofs.condition.is_assignment.Given as goal

-- each value so far is within the bounds of its variable
abbrev pub invariant-loop-k : goal.invariant-loop-k
invariant-loop-k l = (k : ℕ) (var : PlainVar) → k < l.k → InBounds (get_or l.vars k var) (get_or l.values k (pos 0))
