use Rattle.refutation.specs.Box.{PlainBox}
use Rattle.refutation.specs.Leaf.{leaf_of}
use Rattle.combos.proofs.PairLemmas.{is_pair, no_pair_from, none_from}
use Rattle.combos.proofs.pair.pair_from.Goals as goal

pub returns-in-None : goal.returns-in-None
returns-in-None c =
    let box : PlainBox = record { bounds = c.args.bounds.now; sides = c.args.sides.now } in
    none_from c.args.key.now box c.args.place c.in-None.ensures.only

pub returns-in-None-pair_with : goal.returns-in-None-pair_with
returns-in-None-pair_with c =
    let box : PlainBox = record { bounds = c.args.bounds.now; sides = c.args.sides.now } in
    no_pair_from c.args.key.now box c.args.place c.in-Some.first.term c.in-Some.ensures.only
    c.in-None-pair_with.ensures

pub returns-in-Some-pair_with : goal.returns-in-Some-pair_with
returns-in-Some-pair_with c =
    let box : PlainBox = record { bounds = c.args.bounds.now; sides = c.args.sides.now } in
    is_pair c.args.key.now box c.in-Some.first.term c.in-Some-pair_with.second (leaf_of c.leaf_of_two.result)
    c.leaf_of_two.ensures c.in-Some.ensures.weighed.factor c.in-Some-pair_with.ensures
