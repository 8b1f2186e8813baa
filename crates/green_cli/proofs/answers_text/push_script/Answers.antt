use Rattle.std.proofs.Common.{◌<◌, length, arith}
use Rattle.std.proofs.lemmas.List.{drop_all}
use Rattle.green_cli.proofs.TextLemmas.{carry, done, script_step, script_end}
use Rattle.green_cli.proofs.answers_text.push_script.Goals as goal

pub loop-i-preserved : goal.loop-i-preserved
loop-i-preserved c =
    let within : c.loop-i.i < length c.args.answers.now = omega (arith, c.requires) in
    let step = script_step c.args.queries.now c.args.answers.now c.loop-i.i c.index-queries-i.result
    c.index-answers-i.result c.loop-i-test.true c.index-queries-i.is within c.index-answers-i.is in
    carry _ _ _ _ _ _ c.loop-i.invariant step (c.in_ok-push_line.ensures {u = tt})

pub returns : goal.returns
returns c = done _ _ _ c.loop-i.invariant
    (script_end _ _ (drop_all c.loop-i.i c.args.queries.now c.loop-i-test.false))
