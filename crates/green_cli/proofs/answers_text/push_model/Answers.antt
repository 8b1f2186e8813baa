use Rattle.std.proofs.Common.{◌≡◌, ◌++◌, drop, rules, w64}
use mir.Val.{SFits}
use Rattle.std.proofs.lemmas.Int.{to_z-of_z}
use Rattle.std.proofs.lemmas.List.{drop_all}
use Rattle.green_cli.specs.AnswersText.{value_text}
use Rattle.green_cli.proofs.TextLemmas.{carry, done, model_step, model_done, model_end}
use Rattle.green_cli.proofs.answers_text.push_model.Goals as goal

pub returns-in_default : goal.returns-in_default
returns-in_default c =
    done _ _ _ c.loop-i.invariant (model_done (drop c.loop-i.i c.args.vars.now) (drop c.loop-i.i c.args.values.now)
    (drop_all c.loop-i.i c.args.values.now c.in_default.ensures.lookup.3))

pub loop-i-preserved : goal.loop-i-preserved
loop-i-preserved c =
    let found = c.in-Some.ensures.lookup in
    let more = model_step c.args.vars.now c.args.values.now c.loop-i.i c.index-vars-i.result c.in-Some.value.now
    c.loop-i-test.true c.index-vars-i.is found.3.0 found.1 in
    let grows : c.push_value.new.out.items ≡ c.loop-i.out.items ++ value_text c.index-vars-i.result
    c.in-Some.value.now =
    let fits : SFits w64 c.in-Some.value.now = search rules in
    simp to_z-of_z at (c.in_ok-push_value.ensures {u = tt})
    in
    carry _ _ _ _ _ _ c.loop-i.invariant more grows

pub returns : goal.returns
returns c = done _ _ _ c.loop-i.invariant (model_end _ _ (drop_all c.loop-i.i c.args.vars.now c.loop-i-test.false))
