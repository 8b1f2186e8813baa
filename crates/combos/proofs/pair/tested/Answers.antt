use Rattle.std.proofs.Common.{◌∙◌}
use Rattle.refutation.specs.Box.{PlainBox}
use Rattle.refutation.specs.Leaf.{leaf_of}
use Rattle.combos.proofs.PairLemmas.{in_order}
use Rattle.combos.proofs.pair.tested.Goals as goal

pub returns : goal.returns
returns c =
    let box : PlainBox = record { bounds = c.args.bounds.now; sides = c.args.sides.now } in
    c.closes.ensures ∙ in_order c.args.key.now box c.args.first c.args.second (leaf_of c.leaf_of_two-leaf.result)
    c.leaf_of_two-leaf.ensures
