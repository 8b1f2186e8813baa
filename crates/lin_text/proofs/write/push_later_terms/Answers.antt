use Rattle.std.proofs.Common.{arith}
use Rattle.std.proofs.lemmas.Grind.{common_steps}
use Rattle.std.proofs.lemmas.List.Elements.{All-more, at_read}
use Rattle.lin_model.specs.Terms.{TermFits}
use Rattle.lin_text.proofs.write.push_later_terms.Goals as goal

pub loop-term-preserved : goal.loop-term-preserved
loop-term-preserved c = record {
  text = grind (arith, common_steps);
  fits = All-more TermFits c.args.terms.now c.loop-term.term-index c.term-item.result c.loop-term-test.true
      c.loop-term.invariant.fits (at_read c.args.terms.now TermFits c.loop-term.term-index c.term-item.result
      c.loop-term-test.true c.term-item.is c.in_ok-push_later_term.ensures.fits c.term-item.result);
}
