use Rattle.std.proofs.lemmas.Result.{err_from_is_err_and}
use Rattle.entry_codec.proofs.TreeLemmas.{grown-ends, grown-goes_on, grown-is_done}
use Rattle.entry_codec.proofs.read.trees.node_list_at.Goals as goal

pub returns-in_err-node : goal.returns-in_err-node
returns-in_err-node c =
    let p = err_from_is_err_and c.from_residual.result c.from_residual.ensures.1 in
    rw (p.1, p.2)
    (grown-ends c.in_err-node.field-0.0 c.args.count c.loop.counter c.loop.nodes.items c.loop.terms.items
    c.loop.rest.now c.args.bytes.now c.loop-test.true c.in_err-node.ensures c.loop.invariant)

pub loop-preserved : goal.loop-preserved
loop-preserved c =
    rw c.in_ok-push.ensures.items
    (grown-goes_on c.args.count c.loop.counter c.loop.nodes.items c.loop.terms.items c.in_ok-node.node _
    c.loop.rest.now c.in_ok-node.after.now _ c.loop-test.true c.in_ok-node.ensures c.loop.invariant)

pub returns : goal.returns
returns c =
    rw c.new.ensures
    (grown-is_done c.args.count c.loop.counter c.loop.nodes.items c.loop.terms.items c.loop.rest.now c.args.bytes.now
    c.loop-test.false c.loop.invariant)
