use Rattle.std.proofs.Common.{ℕ, ◌<◌, get_or}
use Rattle.lin_model.specs.Terms.{PlainVar}
use Rattle.lin_model.specs.Conditions.{Differ}
use Rattle.lin_model.proofs.limits.is_free.Given as goal

-- none so far has the name
abbrev pub invariant-loop-earlier : goal.invariant-loop-earlier
invariant-loop-earlier l = (k : ℕ) (var : PlainVar) → k < l.earlier-index → Differ (get_or l.vars k var) l.var
