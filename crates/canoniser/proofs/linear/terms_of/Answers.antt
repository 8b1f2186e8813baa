use Rattle.std.proofs.Common.{◌<◌, get_or, arith, to_z, of_z}
use Rattle.std.specs.Int.{w64}
use Rattle.std.proofs.lemmas.Int.{ints}
use Rattle.canoniser.proofs.LimitsLemmas.{terms_from_more}
use Rattle.canoniser.proofs.linear.terms_of.Goals as goal

pub loop-k-preserved : goal.loop-k-preserved
loop-k-preserved c atom reads =
    let v = get_or c.args.order.now c.loop-k.k 0 in
    let low : v < 64 = c.requires.in_range c.loop-k.k 0 c.loop-k-test.true in
    terms_from_more c.args.order.now c.loop-k.k atom c.loop-k.terms.items c.push_term.new.terms.items
    (to_z w64 (of_z w64 c.difference-coef.result)) c.loop-k-test.true (c.in_ok-push_term.ensures {u = tt})
    (c.loop-k.invariant atom reads)
    (omega (
      arith,
      ints,
      c.difference-coef.ensures,
      reads v low,
      c.requires.small_left v low,
      c.requires.small_right v low,
    ))
