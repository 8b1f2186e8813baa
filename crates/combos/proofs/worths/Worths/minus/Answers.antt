use Rattle.std.proofs.Common.{negsuc, refl}
use Rattle.refutation.specs.Box.{PlainBox}
use Rattle.refutation.specs.Glance.{term_at}
use Rattle.combos.specs.AtCorners.{negated}
use Rattle.combos.proofs.WorthLemmas.{negated-worth, is_weighed}
use Rattle.combos.proofs.worths.Worths.minus.Goals as goal

pub returns-clause-weighed : goal.returns-clause-weighed
returns-clause-weighed c =
    let key = c.args.key.now in
    let box : PlainBox = record { bounds = c.args.bounds.now; sides = c.args.sides.now } in
    is_weighed key box (term_at key c.args.place (negsuc 0)) c.term_at.result (negated c.at.result) c.negated.result
    c.term_at.ensures c.negated.ensures.value refl refl
    (negated-worth key box c.args.place c.at.result c.requires.equation c.at.ensures.worth) c.negated.ensures.small
