use Rattle.std.proofs.Common.{arith}
use Rattle.refutation.specs.Glance.{SomeOtherCloses, place_count}
use Rattle.refutation.proofs.GlanceLemmas.{none_below}
use Rattle.refutation.proofs.glance.some_pair_closes.Goals as goal

pub returns : goal.returns
returns c =
    none_below (SomeOtherCloses c.args.key.now (record { bounds = c.args.bounds.now; sides = c.args.sides.now }))
    (place_count c.args.key.now c.args.sides.now) c.loop-place.place (omega (arith, c.place_count-place-end.ensures))
    c.loop-place.invariant
