use Rattle.std.proofs.Common.{◌≡◌, take}
use Rattle.pipeline.specs.Runs.{AnswersAll}
use Rattle.green_cli.proofs.answering.answer_script.Given as goal

-- the queries up to here are answered
abbrev pub invariant-loop-query : goal.invariant-loop-query
invariant-loop-query g l = record {
  run : AnswersAll (g.O.SliceOracle.budget l.fn.oracle) (take l.query-index l.queries) l.answers
      (g.O.SliceOracle.seat l.fn.oracle) (g.O.SliceOracle.seat l.oracle);
  budget : g.O.SliceOracle.budget l.oracle ≡ g.O.SliceOracle.budget l.fn.oracle;
  origin : g.O.SliceOracle.origin l.oracle ≡ g.O.SliceOracle.origin l.fn.oracle;
}
