use Rattle.std.proofs.Common.{◌∙◌, sym}
use Rattle.lin_model.specs.Conditions.{Differ}
use Rattle.lin_model.proofs.Elements.{pairs_more, front_from_AllPairs}
use Rattle.lin_model.proofs.limits.are_distinct.Goals as goal

pub returns-then-not-is_free : goal.returns-then-not-is_free
returns-then-not-is_free c = (
  λ e. absurd (cc),
  λ distinct. sym c.if-not-is_free.true ∙ c.is_free.ensures.1
      (front_from_AllPairs Differ c.args.vars.now c.loop-k.k c.index-vars-k.result c.loop-k-test.true c.index-vars-k.is
      distinct),
)

pub loop-k-preserved : goal.loop-k-preserved
loop-k-preserved c =
    pairs_more Differ c.args.vars.now c.loop-k.k c.index-vars-k.result c.loop-k-test.true c.index-vars-k.is
    c.loop-k.invariant (c.is_free.ensures.0 c.if-not-is_free.false)
