use Rattle.std.proofs.Common.{◌≡◌, ◌∙◌, List, [], ◌∷◌, ◌++◌, length, take, ◌+◌, ℕ, sym, subst}
use Rattle.lin_model.specs.Conditions.{PlainCondition}
use Rattle.pipeline.specs.declared.answers.Answer.{Answer}
use Rattle.pipeline.specs.Runs.{AnswersAll}
use Rattle.green_cli.specs.Answered.{in_order}
use Rattle.green_cli.specs.AnswersText.{HaveAnswers}
use Rattle.green_cli.proofs.RunLemmas.{answers-long, scripts_more, zip_more}
use Rattle.green_cli.proofs.answering.answer_executors.Goals as goal

pub loop-executor-preserved : goal.loop-executor-preserved
loop-executor-preserved g c =
    let budget = g.O.SliceOracle.budget c.args.oracle.now in
    let old = g.O.SliceOracle.seat c.args.oracle.now in
    let mid = g.O.SliceOracle.seat c.loop-executor.oracle in
    let new = g.O.SliceOracle.seat c.answer_script.new.oracle in
    let script = c.in_ok-answer_script.field-0 in
    let pushed : c.push.new.self ≡ c.loop-executor.answers ++ script ∷ [] = c.in_ok-push.ensures.ok in
    let asked : AnswersAll budget c.queries.result.now script mid new =
    subst (λ (n : ℕ). AnswersAll n c.queries.result.now script mid new) c.loop-executor.invariant.budget
    c.in_ok-answer_script.ensures.run in
    let here : AnswersAll budget c.executor-item.result script mid new =
    subst (λ (queries : List PlainCondition). AnswersAll budget queries script mid new) c.queries.ensures asked in
    record {
      run = subst (λ (answers : List (List Answer)). AnswersAll budget
          (in_order (take (c.loop-executor.executor-index + 1) c.args.executors.now)) (in_order answers) old new)
          (sym pushed)
          (scripts_more budget c.args.executors.now c.loop-executor.answers c.loop-executor.executor-index
          c.executor-item.result script old mid new c.loop-executor-test.true c.executor-item.is
          c.loop-executor.invariant.run here);
      shape = subst (λ (answers : List (List Answer)). HaveAnswers
          (take (c.loop-executor.executor-index + 1) c.args.executors.now) answers) (sym pushed)
          (zip_more (λ (queries : List PlainCondition) (answers : List Answer). length queries ≡ length answers)
          c.args.executors.now c.loop-executor.answers c.loop-executor.executor-index c.executor-item.result script
          c.loop-executor-test.true c.executor-item.is c.loop-executor.invariant.shape
          (answers-long budget c.executor-item.result script mid new here));
      budget = c.answer_script.ensures.budget ∙ c.loop-executor.invariant.budget;
      origin = c.answer_script.ensures.origin ∙ c.loop-executor.invariant.origin;
    }
