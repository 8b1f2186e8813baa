use Rattle.std.proofs.Common.{pos, false, true, sym, arith}
use Rattle.std.proofs.lemmas.Int.{ints}
use Rattle.refutation.specs.Box.{PlainBox}
use Rattle.refutation.specs.Glance.{term_at}
use Rattle.combos.proofs.PairLemmas.{too_little}
use Rattle.combos.proofs.pair.closes_by_plus.Goals as goal

pub returns-then-not-exceed : goal.returns-then-not-exceed
returns-then-not-exceed c =
    let key = c.args.key.now in
    let box : PlainBox = record { bounds = c.args.bounds.now; sides = c.args.sides.now } in
    sym (too_little key box false c.args.first.term (term_at key c.args.place (pos 1)) c.args.first.worth.lowest
    c.lowest_at.result c.combinations_are_positive.ensures c.keeps_limits.ensures c.keeps_limits-2.ensures
    c.requires.full c.requires.first.worth.lowest c.lowest_at.ensures.value (omega (
      arith,
      ints,
      c.exceed.ensures,
      c.if-not-exceed.true,
    )))

pub returns-then-not-exceed-2 : goal.returns-then-not-exceed-2
returns-then-not-exceed-2 c =
    let key = c.args.key.now in
    let box : PlainBox = record { bounds = c.args.bounds.now; sides = c.args.sides.now } in
    sym (too_little key box true c.args.first.term (term_at key c.args.place (pos 1)) c.args.first.worth.highest
    c.highest_at.result c.combinations_are_positive.ensures c.keeps_limits.ensures c.keeps_limits-2.ensures
    c.requires.full c.requires.first.worth.highest c.highest_at.ensures.value (omega (
      arith,
      ints,
      c.exceed-2.ensures,
      c.if-not-exceed-2.true,
    )))
