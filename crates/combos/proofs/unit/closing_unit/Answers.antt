use Rattle.std.proofs.Common.{arith}
use Rattle.std.proofs.lemmas.Bool.{both_ways}
use Rattle.refutation.specs.Box.{PlainBox}
use Rattle.refutation.specs.Glance.{unit_closes}
use Rattle.combos.proofs.unit.closing_unit.Goals as goal

pub returns : goal.returns
returns c = λ some.
    let box : PlainBox = record { bounds = c.args.bounds.now; sides = c.args.sides.now } in
    both_ways (unit_closes c.args.key.now box some.number)
    (c.loop-place.invariant some.number (omega (arith, some.below, c.place_count-place-end.ensures))) some.holds
