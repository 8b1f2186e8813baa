use Rattle.std.proofs.lemmas.Result.{err_from_is_err_and}
use Rattle.entry_codec.specs.Reading.{pushed_at, repeat}
use Rattle.entry_codec.specs.NodeReading.{leaf_term_at}
use Rattle.entry_codec.proofs.LoopLemmas.{item_ends, item_goes_on, is_done}
use Rattle.entry_codec.proofs.read.nodes.push_leaf_terms.Goals as goal

pub returns-in_err-term : goal.returns-in_err-term
returns-in_err-term c =
    let p = err_from_is_err_and c.from_residual.result c.from_residual.ensures.1 in
    rw (p.1, p.2)
    (item_ends (λ before. leaf_term_at) c.in_err-term.field-0.0 c.args.count c.loop.counter c.loop.terms.items
    c.loop.rest.now (repeat (pushed_at (λ before. leaf_term_at)) c.args.count c.args.terms.now.items c.args.bytes.now)
    c.loop-test.true c.in_err-term.ensures c.loop.invariant)

pub loop-preserved : goal.loop-preserved
loop-preserved c =
    rw c.in_ok-push.ensures.items
    (item_goes_on (λ before. leaf_term_at) c.args.count c.loop.counter c.loop.terms.items c.in_ok-term.term
    c.loop.rest.now c.in_ok-term.after.now
    (repeat (pushed_at (λ before. leaf_term_at)) c.args.count c.args.terms.now.items c.args.bytes.now) c.loop-test.true
    c.in_ok-term.ensures c.loop.invariant)

pub returns : goal.returns
returns c =
    is_done (pushed_at (λ before. leaf_term_at)) c.args.count c.loop.counter c.loop.terms.items c.loop.rest.now
    (repeat (pushed_at (λ before. leaf_term_at)) c.args.count c.args.terms.now.items c.args.bytes.now) c.loop-test.false
    c.loop.invariant
