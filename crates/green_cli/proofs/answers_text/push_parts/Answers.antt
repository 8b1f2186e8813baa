use Rattle.std.proofs.lemmas.List.{drop_all}
use Rattle.green_cli.proofs.TextLemmas.{carry, done, parts_step, parts_end}
use Rattle.green_cli.proofs.answers_text.push_parts.Goals as goal

pub loop-part-preserved : goal.loop-part-preserved
loop-part-preserved c =
    let step = parts_step c.args.parts.now c.loop-part.part-index c.part-item.result c.loop-part-test.true
    c.part-item.is in
    carry _ _ _ _ _ _ c.loop-part.invariant step (c.in_ok-push_part.ensures {u = tt})

pub returns : goal.returns
returns c = done _ _ _ c.loop-part.invariant
    (parts_end _ (drop_all c.loop-part.part-index c.args.parts.now c.loop-part-test.false))
