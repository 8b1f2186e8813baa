use Rattle.std.proofs.Common.{arith}
use Rattle.layers.proofs.JoinLemmas.{entry_there, longer_front, same_length}
use Rattle.layers.proofs.version.entry_at.Goals as goal

pub returns-then-rest-len : goal.returns-then-rest-len
returns-then-rest-len c =
    entry_there c.args.layers.now c.loop-layer.layer-index c.layer-item.result c.loop-layer-test.true c.layer-item.is
    c.loop-layer.rest c.args.place c.entries.result.now c.index-entries-rest.result _ c.entries.ensures.entries
    c.get-layer.ensures c.loop-layer.invariant
    (let same = same_length c.get-layer.result.now c.layer-item.result c.get-layer.ensures in omega arith)
    c.index-entries-rest.is

pub loop-layer-preserved : goal.loop-layer-preserved
loop-layer-preserved c =
    let step = longer_front c.args.layers.now c.loop-layer.layer-index c.layer-item.result c.loop-layer-test.true
    c.layer-item.is in
    let same = same_length c.get-layer.result.now c.layer-item.result c.get-layer.ensures in
    omega (arith, c.loop-layer.invariant)
