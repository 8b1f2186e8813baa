use Rattle.std.proofs.Common.{negsuc, neg_ℤ, false, true, sym, ◌∙◌, arith}
use Rattle.std.proofs.lemmas.Int.{ints}
use Rattle.refutation.specs.Box.{PlainBox}
use Rattle.refutation.specs.Glance.{term_at}
use Rattle.combos.proofs.PairLemmas.{too_little, without_second}
use Rattle.combos.proofs.WorthLemmas.{negated-value, other-unlawful}
use Rattle.combos.proofs.pair.closes_by_minus.Goals as goal

pub returns-then-not-is_equation : goal.returns-then-not-is_equation
returns-then-not-is_equation c =
    let key = c.args.key.now in
    let box : PlainBox = record { bounds = c.args.bounds.now; sides = c.args.sides.now } in
    sym (without_second key box c.args.first.term (term_at key c.args.place (negsuc 0))
    c.combinations_are_positive.ensures c.keeps_limits.ensures c.keeps_limits-2.ensures c.requires.full
    (other-unlawful key box c.args.place false (sym c.is_equation.ensures ∙ c.if-not-is_equation.true)))

pub returns-then-first-lowest_at : goal.returns-then-first-lowest_at
returns-then-first-lowest_at c =
    let key = c.args.key.now in
    let box : PlainBox = record { bounds = c.args.bounds.now; sides = c.args.sides.now } in
    let equation = sym c.is_equation.ensures ∙ c.if-not-is_equation.false in
    sym (too_little key box false c.args.first.term (term_at key c.args.place (negsuc 0)) c.args.first.worth.lowest
    (neg_ℤ c.lowest_at.result) c.combinations_are_positive.ensures c.keeps_limits.ensures c.keeps_limits-2.ensures
    c.requires.full c.requires.first.worth.lowest
    (negated-value key box c.args.place false c.lowest_at.result equation c.lowest_at.ensures.value)
    (omega (arith, ints)))

pub returns-then-first-highest_at : goal.returns-then-first-highest_at
returns-then-first-highest_at c =
    let key = c.args.key.now in
    let box : PlainBox = record { bounds = c.args.bounds.now; sides = c.args.sides.now } in
    let equation = sym c.is_equation.ensures ∙ c.if-not-is_equation.false in
    sym (too_little key box true c.args.first.term (term_at key c.args.place (negsuc 0)) c.args.first.worth.highest
    (neg_ℤ c.highest_at.result) c.combinations_are_positive.ensures c.keeps_limits.ensures c.keeps_limits-2.ensures
    c.requires.full c.requires.first.worth.highest
    (negated-value key box c.args.place true c.highest_at.result equation c.highest_at.ensures.value)
    (omega (arith, ints)))
