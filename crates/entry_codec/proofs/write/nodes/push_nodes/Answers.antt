use Rattle.std.proofs.Common.{arith}
use Rattle.std.proofs.lemmas.Grind.{common_steps}
use Rattle.entry_codec.proofs.WritingLaws.{short_with_rest}
use Rattle.entry_codec.proofs.write.nodes.push_nodes.Goals as goal

pub loop-each-preserved : goal.loop-each-preserved
loop-each-preserved c = record {
  added = grind (arith, common_steps);
  enough = grind (arith, common_steps);
  short = λ behind. c.loop-each.invariant.short
      (short_with_rest _ c.loop-each.rest.now c.in_ok-rest.rest.now c.in_ok-rest.ensures.rest c.in_ok-rest.ensures.short
      behind);
}
