use Rattle.std.proofs.Common.{arith}
use Rattle.std.proofs.lemmas.Grind.{common_steps}
use Rattle.std.proofs.lemmas.List.Elements.{All-more, at_read}
use Rattle.lin_model.specs.Terms.{VarFits}
use Rattle.lin_text.proofs.write.push_vars.Goals as goal

pub loop-var-preserved : goal.loop-var-preserved
loop-var-preserved c = record {
  text = grind (arith, common_steps);
  fits = All-more VarFits c.args.vars.now c.loop-var.var-index c.var-item.result c.loop-var-test.true
      c.loop-var.invariant.fits (at_read c.args.vars.now VarFits c.loop-var.var-index c.var-item.result
      c.loop-var-test.true c.var-item.is c.in_ok-push_var.ensures.fits c.var-item.result);
}
