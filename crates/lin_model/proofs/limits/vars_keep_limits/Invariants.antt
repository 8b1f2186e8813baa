use Rattle.std.proofs.Common.{ℕ, ◌<◌, get_or}
use Rattle.lin_model.specs.Terms.{PlainVar, VarFits}
use Rattle.lin_model.proofs.limits.vars_keep_limits.Given as goal

-- each variable so far is within its limits
abbrev pub invariant-loop-var : goal.invariant-loop-var
invariant-loop-var l = (k : ℕ) (var : PlainVar) → k < l.var-index → VarFits (get_or l.vars k var)
