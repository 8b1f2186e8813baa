use Rattle.std.proofs.Common.{arith}
use Rattle.std.proofs.lemmas.Grind.{common_steps}
use Rattle.std.proofs.lemmas.List.Elements.{All-more, at_read}
use Rattle.lin_model.specs.Conditions.{IsCondition}
use Rattle.session_text.proofs.write.push_queries.Goals as goal

pub loop-query-preserved : goal.loop-query-preserved
loop-query-preserved c = record {
  text = grind (arith, common_steps);
  fits = All-more IsCondition c.args.queries.now c.loop-query.query-index c.query-item.result c.loop-query-test.true
      c.loop-query.invariant.fits (at_read c.args.queries.now IsCondition c.loop-query.query-index c.query-item.result
      c.loop-query-test.true c.query-item.is c.in_ok-push_asked.ensures.fits c.query-item.result);
}
