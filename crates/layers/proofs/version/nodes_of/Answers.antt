use Rattle.std.proofs.Common.{arith}
use Rattle.layers.proofs.NodeLemmas.{nodes_more, nodes_all}
use Rattle.layers.proofs.HalvingLemmas.{count_fits}
use Rattle.layers.proofs.version.nodes_of.Goals as goal

pub overflow_add-nodes : goal.overflow_add-nodes
overflow_add-nodes c =
    let few = count_fits c.args.layers.now c.requires.halving c.requires.few in
    let here = c.nodes-nodes.ensures.few in
    let so_far = c.loop-layer.invariant.few in
    let at = c.loop-layer-test.true in
    omega arith

pub loop-layer-preserved : goal.loop-layer-preserved
loop-layer-preserved c = record {
  rest =
      nodes_more c.args.layers.now c.loop-layer.layer-index c.loop-layer.nodes c.nodes-nodes.result c.layer-item.result
      c.get.result.now c.loop-layer-test.true c.layer-item.is c.get.ensures c.nodes-nodes.ensures.nodes
      c.loop-layer.invariant.rest;
  few = let here = c.nodes-nodes.ensures.few in let so_far = c.loop-layer.invariant.few in omega arith;
}

pub returns : goal.returns
returns c =
    nodes_all c.args.layers.now c.loop-layer.layer-index c.loop-layer.nodes c.loop-layer-test.false
    c.loop-layer.auto.layer-index-end c.loop-layer.invariant.rest
