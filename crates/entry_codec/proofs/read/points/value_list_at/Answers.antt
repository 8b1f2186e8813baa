use Rattle.std.proofs.Common.{w64, rules}
use Rattle.std.proofs.lemmas.Result.{err_from_is_err_and}
use Rattle.std.proofs.lemmas.Int.{to_z-of_z}
use Rattle.entry_codec.specs.Reading.{pushed_at, list_at}
use Rattle.entry_codec.specs.FieldReading.{value_at}
use Rattle.entry_codec.proofs.LoopLemmas.{item_ends, item_goes_on, is_done}
use Rattle.entry_codec.proofs.read.points.value_list_at.Goals as goal

pub returns-in_err-value : goal.returns-in_err-value
returns-in_err-value c =
    let p = err_from_is_err_and c.from_residual.result c.from_residual.ensures.1 in
    rw (p.1, p.2)
    (item_ends (λ before. value_at) c.in_err-value.field-0.0 c.args.count c.loop.counter c.loop.values.items c.loop.rest.now
    (list_at (λ before. value_at) c.args.count c.args.bytes.now) c.loop-test.true c.in_err-value.ensures c.loop.invariant)

pub loop-preserved : goal.loop-preserved
loop-preserved c =
    let step = item_goes_on (λ before. value_at) c.args.count c.loop.counter c.loop.values.items c.in_ok-value.value
    c.loop.rest.now c.in_ok-value.after.now (list_at (λ before. value_at) c.args.count c.args.bytes.now)
    c.loop-test.true c.in_ok-value.ensures c.loop.invariant in
    rw (c.in_ok-push.ensures.items, to_z-of_z w64 c.in_ok-value.value (search rules)) step

pub returns : goal.returns
returns c =
    is_done (pushed_at (λ before. value_at)) c.args.count c.loop.counter c.loop.values.items c.loop.rest.now
    (list_at (λ before. value_at) c.args.count c.args.bytes.now) c.loop-test.false c.loop.invariant
