use Rattle.std.proofs.Common.{[], ◌∷◌, take, get_or, ◌+◌}
use Rattle.std.proofs.lemmas.List.{take_more}
use Rattle.canoniser.proofs.GainsLemmas.{Gains-more}
use Rattle.canoniser.proofs.numbering.add_all.Goals as goal

pub loop-var-preserved : goal.loop-var-preserved
loop-var-preserved c =
    let vars = c.args.vars.now in
    let k = c.loop-var.var-index in
    Gains-more c.args.order.now.items c.loop-var.order.items c.add.new.order.items (take k vars) (get_or vars k 0 ∷ [])
    (take (k + 1) vars) (take_more vars k 0 c.loop-var-test.true) c.loop-var.invariant
    (c.in_ok-add.ensures {u = tt})
