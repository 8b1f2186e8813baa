use Rattle.std.proofs.Common.{sym, ◌∙◌}
use Rattle.refutation.specs.Box.{PlainBox}
use Rattle.combos.proofs.UnitLemmas.{none_closes, nor_closes}
use Rattle.combos.proofs.unit.unit_at.Goals as goal

pub returns-in-None : goal.returns-in-None
returns-in-None c =
    let box : PlainBox = record { bounds = c.args.bounds.now; sides = c.args.sides.now } in
    none_closes c.args.key.now box c.args.place c.combinations_are_positive.ensures c.keeps_limits.ensures
    c.keeps_limits-2.ensures c.requires.full c.in-None.ensures.only

pub returns-else-closes_box : goal.returns-else-closes_box
returns-else-closes_box c =
    let box : PlainBox = record { bounds = c.args.bounds.now; sides = c.args.sides.now } in
    nor_closes c.args.key.now box c.args.place c.in-Some.unit.term c.combinations_are_positive.ensures
    c.keeps_limits.ensures c.keeps_limits-2.ensures c.requires.full c.in-Some.ensures.only
    (sym c.closes_box.ensures ∙ c.if-closes_box.false)
