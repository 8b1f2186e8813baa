use Rattle.std.proofs.Common.{arith, ◌∙◌, sym}
use Rattle.lin_text.specs.Facts.{line_from-end, line_from-here}
use Rattle.lin_text.proofs.LineLemmas.{line_from-below}
use Rattle.lin_text.proofs.lines.first_line.Goals as goal

pub loop-start-preserved : goal.loop-start-preserved
loop-start-preserved c = record {
  within = omega arith;
  ahead = omega (arith, c.line_below-start.ensures.further (omega arith), c.loop-start.invariant.ahead);
  same = line_from-below c.args.bytes.now c.bytes_from.result.now c.loop-start.start c.line_below-start.result
      c.loop-start.invariant.within c.line_below-start.ensures.start c.bytes_from.ensures (sym c.is_skipped.ensures
      ∙ c.if-is_skipped.true) ∙ c.loop-start.invariant.same;
  keeps = λ h. c.line_below-start.ensures.starts;
}

pub returns-else-is_skipped-clause-start : goal.returns-else-is_skipped-clause-start
returns-else-is_skipped-clause-start c =
    sym (line_from-here c.args.bytes.now c.bytes_from.result.now c.loop-start.start c.bytes_from.ensures
    (sym c.is_skipped.ensures ∙ c.if-is_skipped.false)) ∙ c.loop-start.invariant.same

pub returns-after-loop-start-clause-start : goal.returns-after-loop-start-clause-start
returns-after-loop-start-clause-start c =
    sym (line_from-end c.args.bytes.now c.loop-start.start (omega arith)) ∙ c.loop-start.invariant.same
