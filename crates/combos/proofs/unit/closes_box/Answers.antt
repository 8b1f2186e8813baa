use Rattle.std.proofs.Common.{true, sym, arith}
use Rattle.std.proofs.lemmas.Int.{ints}
use Rattle.refutation.specs.Box.{PlainBox}
use Rattle.combos.proofs.UnitLemmas.{too_little_alone}
use Rattle.combos.proofs.unit.closes_box.Goals as goal

pub returns-else-unit-gt0 : goal.returns-else-unit-gt0
returns-else-unit-gt0 c =
    let box : PlainBox = record { bounds = c.args.bounds.now; sides = c.args.sides.now } in
    sym (too_little_alone c.args.key.now box true c.args.unit.term c.args.unit.worth.highest
    c.combinations_are_positive.ensures c.keeps_limits.ensures c.keeps_limits-2.ensures c.requires.full
    c.requires.unit.worth.highest (omega (arith, ints)))
