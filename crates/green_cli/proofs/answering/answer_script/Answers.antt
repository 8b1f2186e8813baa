use Rattle.std.proofs.Common.{◌≡◌, ◌∙◌, List, [], ◌∷◌, ◌++◌, take, ◌+◌, ℕ, sym, subst}
use Rattle.pipeline.specs.declared.answers.Answer.{Answer}
use Rattle.pipeline.specs.Answers.{AnswersQuery}
use Rattle.pipeline.specs.Runs.{AnswersAll}
use Rattle.green_cli.proofs.RunLemmas.{answers_more}
use Rattle.green_cli.proofs.answering.answer_script.Goals as goal

pub loop-query-preserved : goal.loop-query-preserved
loop-query-preserved g c =
    let budget = g.O.SliceOracle.budget c.args.oracle.now in
    let old = g.O.SliceOracle.seat c.args.oracle.now in
    let mid = g.O.SliceOracle.seat c.loop-query.oracle in
    let new = g.O.SliceOracle.seat c.answer.new.oracle in
    let pushed : c.push.new.self ≡ c.loop-query.answers ++ c.in_ok-answer.field-0 ∷ [] = c.in_ok-push.ensures.ok in
    let here : AnswersQuery budget c.query-item.result c.in_ok-answer.field-0 mid new =
    subst (λ (n : ℕ). AnswersQuery n c.query-item.result c.in_ok-answer.field-0 mid new) c.loop-query.invariant.budget
    c.in_ok-answer.ensures.answer in
    record {
      run = subst (λ (answers : List Answer). AnswersAll budget (take (c.loop-query.query-index + 1) c.args.queries.now)
          answers old new) (sym pushed)
          (answers_more budget c.args.queries.now c.loop-query.answers c.loop-query.query-index c.query-item.result
          c.in_ok-answer.field-0 old mid new c.loop-query-test.true c.query-item.is c.loop-query.invariant.run here);
      budget = c.answer.ensures.budget ∙ c.loop-query.invariant.budget;
      origin = c.answer.ensures.origin ∙ c.loop-query.invariant.origin;
    }
