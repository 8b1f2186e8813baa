use Rattle.std.proofs.Common.{◌≡◌, take}
use Rattle.pipeline.specs.Runs.{AnswersAll}
use Rattle.green_cli.specs.Answered.{in_order}
use Rattle.green_cli.specs.AnswersText.{HaveAnswers}
use Rattle.green_cli.proofs.answering.answer_executors.Given as goal

-- the executors up to here are answered
abbrev pub invariant-loop-executor : goal.invariant-loop-executor
invariant-loop-executor g l = record {
  run : AnswersAll (g.O.SliceOracle.budget l.fn.oracle) (in_order (take l.executor-index l.executors))
      (in_order l.answers) (g.O.SliceOracle.seat l.fn.oracle) (g.O.SliceOracle.seat l.oracle);
  shape : HaveAnswers (take l.executor-index l.executors) l.answers;
  budget : g.O.SliceOracle.budget l.oracle ≡ g.O.SliceOracle.budget l.fn.oracle;
  origin : g.O.SliceOracle.origin l.oracle ≡ g.O.SliceOracle.origin l.fn.oracle;
}
