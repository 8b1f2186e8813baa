use Rattle.std.proofs.Common.{sym, ◌∙◌, arith}
use Rattle.refutation.specs.Facts.{is_empty-true}
use Rattle.refutation.proofs.BoundsLemmas.{is_empty-false}
use Rattle.refutation.proofs.bounds.any_crosses.Goals as goal

pub returns-then-crosses : goal.returns-then-crosses
returns-then-crosses c =
    sym (is_empty-true (record { lower = c.args.lo.now; upper = c.args.hi.now }) c.loop-var.var c.loop-var-test.true
    (sym c.crosses.ensures ∙ c.if-crosses.true))

pub returns : goal.returns
returns c =
    sym (is_empty-false (record { lower = c.args.lo.now; upper = c.args.hi.now })
    (λ v lt. c.loop-var.invariant v (omega arith)))
