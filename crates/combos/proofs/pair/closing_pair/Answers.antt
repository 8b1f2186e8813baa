use Rattle.std.proofs.Common.{arith, below_more}
use Rattle.refutation.specs.Box.{PlainBox}
use Rattle.combos.proofs.PairLemmas.{no_pairs}
use Rattle.combos.proofs.pair.closing_pair.Goals as goal

pub returns : goal.returns
returns c =
    let box : PlainBox = record { bounds = c.args.bounds.now; sides = c.args.sides.now } in
    no_pairs c.args.key.now box c.combinations_are_positive.ensures c.keeps_limits.ensures c.keeps_limits-2.ensures
    c.requires.full
    (λ place lt. c.loop-place.invariant place (omega (arith, lt, c.place_count-place-end.ensures)))

pub loop-place-preserved : goal.loop-place-preserved
loop-place-preserved c = below_more _ _ c.loop-place.invariant c.in_default.ensures
