use Rattle.std.proofs.Common.{arith, subst}
use Rattle.std.specs.Prelude.{All}
use Rattle.std.proofs.lemmas.Grind.{common_steps}
use Rattle.std.proofs.lemmas.List.Elements.{All-more, at_read}
use Rattle.lin_model.specs.Conditions.{IsCondition}
use Rattle.session_text.proofs.write.push_executors.Goals as goal

pub loop-script-preserved : goal.loop-script-preserved
loop-script-preserved c = record {
  text = grind (arith, common_steps);
  fits = All-more (All IsCondition) c.args.scripts.now c.loop-script.script-index c.script-item.result
      c.loop-script-test.true c.loop-script.invariant.fits
      (at_read c.args.scripts.now (All IsCondition) c.loop-script.script-index c.script-item.result
      c.loop-script-test.true c.script-item.is
      (subst (All IsCondition) c.queries.ensures c.in_ok-push_executor.ensures.fits) c.script-item.result);
}
