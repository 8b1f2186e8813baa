use Rattle.refutation.specs.Box.{PlainBox}
use Rattle.refutation.proofs.GlanceLemmas.{two-from_pair, pair-from_two}
use Rattle.refutation.proofs.glance.closed_by_sum_of_two.Goals as goal

pub returns : goal.returns
returns c =
    let box : PlainBox = record { bounds = c.args.bounds.now; sides = c.args.sides.now } in (
      λ yes'. two-from_pair c.args.key.now box (c.some_pair_closes.ensures.0 yes'),
      λ closed.
          c.some_pair_closes.ensures.1 (pair-from_two c.args.key.now box closed),
    )
