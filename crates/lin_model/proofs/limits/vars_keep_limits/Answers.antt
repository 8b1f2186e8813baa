use Rattle.lin_model.specs.Terms.{VarFits}
use Rattle.lin_model.proofs.Elements.{all_more}
use Rattle.lin_model.proofs.limits.vars_keep_limits.Goals as goal

pub loop-var-preserved : goal.loop-var-preserved
loop-var-preserved c =
    all_more VarFits c.args.vars.now c.loop-var.var-index c.var-item.result c.loop-var-test.true c.var-item.is
    c.loop-var.invariant c.lo-lo.ensures.fits
