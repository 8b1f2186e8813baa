use Rattle.std.proofs.Common.{ℕ, ◌<◌, get_or}
use Rattle.std.specs.Prelude.{IfSome}
use Rattle.lin_model.specs.Terms.{PlainTerm}
use Rattle.lin_model.proofs.limits.terms_name_below.Given as goal

-- each term so far names only variables below the count
abbrev pub invariant-loop-term : goal.invariant-loop-term
invariant-loop-term l =
    (k : ℕ) (term : PlainTerm) → k < l.term-index → IfSome (get_or l.terms k term).var (λ var. var < l.count)
