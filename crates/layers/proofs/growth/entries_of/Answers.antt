use Rattle.std.proofs.Common.{◌∙◌}
use Rattle.layers.proofs.JoinLemmas.{joined_read}
use Rattle.layers.proofs.growth.entries_of.Goals as goal

pub loop-layer-preserved : goal.loop-layer-preserved
loop-layer-preserved c =
    c.in_ok-share_into.ensures
    ∙ joined_read c.args.layers.now c.loop-layer.layer-index c.layer-item.result c.loop-layer-test.true c.layer-item.is
    c.loop-layer.entries.items c.entries.result.now c.get.result.now c.entries.ensures.entries c.get.ensures
    c.loop-layer.invariant
