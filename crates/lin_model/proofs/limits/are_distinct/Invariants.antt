use Rattle.std.proofs.Common.{ℕ, ◌<◌, get_or}
use Rattle.lin_model.specs.Terms.{PlainVar}
use Rattle.lin_model.specs.Conditions.{Differ}
use Rattle.lin_model.proofs.limits.are_distinct.Given as goal

-- no two variables so far have one name
abbrev pub invariant-loop-k : goal.invariant-loop-k
invariant-loop-k l = (i j : ℕ) (var : PlainVar) → i < j → j < l.k → Differ (get_or l.vars i var) (get_or l.vars j var)
