use Rattle.std.proofs.Common.{◌≡◌, ◌<◌, ◌∙◌, ◌++◌, sym, ap, length, List, arith, codes, ℕ, append_assoc}
use Rattle.std.proofs.lemmas.List.{drop_all}
use Rattle.std.proofs.lemmas.Slice.Zip.{AllZip-long}
use Rattle.lin_model.specs.Conditions.{PlainCondition}
use Rattle.lin_text.specs.Spelling.{line}
use Rattle.pipeline.specs.declared.answers.Answer.{Answer}
use Rattle.green_cli.specs.AnswersText.{script_text}
use Rattle.green_cli.proofs.TextLemmas.{answers_read, carry, done, executors_step, executors_end}
use Rattle.green_cli.proofs.answers_text.push_executors.Goals as goal

pub bounds-scripts-i : goal.bounds-scripts-i
bounds-scripts-i c =
    let same = AllZip-long (λ (qs : List PlainCondition) (rs : List Answer). length qs ≡ length rs)
    c.args.executors.now c.args.scripts.now c.requires in
    omega (arith, same)

pub push_script-requires : goal.push_script-requires
push_script-requires c =
    ap length c.queries.ensures ∙ (answers_read c.args.executors.now c.args.scripts.now c.loop-i.i
    c.index-executors-i.result c.index-scripts-i.result c.requires c.loop-i-test.true c.index-executors-i.is
    c.index-scripts-i.is ∙ sym (ap length c.as_slice.ensures))

pub loop-i-preserved : goal.loop-i-preserved
loop-i-preserved c =
    let same = AllZip-long (λ (qs : List PlainCondition) (rs : List Answer). length qs ≡ length rs)
    c.args.executors.now c.args.scripts.now c.requires in
    let within : c.loop-i.i < length c.args.scripts.now = omega (arith, same) in
    let step = executors_step c.args.executors.now c.args.scripts.now c.loop-i.i c.index-executors-i.result
    c.index-scripts-i.result c.loop-i-test.true c.index-executors-i.is within c.index-scripts-i.is in
    let head : c.push_str.new.out.items ≡ c.loop-i.out.items ++ line (codes "executor") =
    c.in_ok-push_str.ensures.text in
    let body : c.push_script.new.out.items ≡ c.push_str.new.out.items ++ script_text c.index-executors-i.result
    c.index-scripts-i.result =
    (c.in_ok-push_script.ensures {u = tt}) ∙ ap (λ (xs : List ℕ). c.push_str.new.out.items ++ xs)
    (ap (λ (qs : List PlainCondition). script_text qs c.as_slice.result.now) c.queries.ensures
    ∙ ap (λ (rs : List Answer). script_text c.index-executors-i.result rs) c.as_slice.ensures) in
    let grows : c.push_script.new.out.items ≡ c.loop-i.out.items ++ (line (codes "executor") ++ script_text
    c.index-executors-i.result c.index-scripts-i.result) =
    body ∙ (ap (λ (xs : List ℕ). xs ++ script_text c.index-executors-i.result c.index-scripts-i.result) head
    ∙ append_assoc c.loop-i.out.items (line (codes "executor")) _) in
    carry _ _ _ _ _ _ c.loop-i.invariant step grows

pub returns : goal.returns
returns c = done _ _ _ c.loop-i.invariant
    (executors_end _ _ (drop_all c.loop-i.i c.args.executors.now c.loop-i-test.false))
