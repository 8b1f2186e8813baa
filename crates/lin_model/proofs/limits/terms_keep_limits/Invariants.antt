use Rattle.std.proofs.Common.{ℕ, ◌<◌, get_or}
use Rattle.lin_model.specs.Terms.{PlainTerm, TermFits}
use Rattle.lin_model.proofs.limits.terms_keep_limits.Given as goal

-- each term so far is within its limits
abbrev pub invariant-loop-term : goal.invariant-loop-term
invariant-loop-term l = (k : ℕ) (term : PlainTerm) → k < l.term-index → TermFits (get_or l.terms k term)
