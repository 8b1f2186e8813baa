use Rattle.std.proofs.Common.{true, false, pos, arith}
use Rattle.std.proofs.lemmas.Int.{ints}
use Rattle.lin_model.specs.declared.form.FormTerm.{FormTerm}
use Rattle.combos.proofs.CornerLemmas.{corner_step}
use Rattle.combos.proofs.corner.excess.Goals as goal

abbrev no_term : FormTerm
no_term = record { var = 0; coef = pos 0 }

pub loop-term-preserved : goal.loop-term-preserved
loop-term-preserved c =
    let i = c.loop-term.term-index in
    let below = c.requires.form.variables.in_range i no_term c.loop-term-test.true in
    let low = corner_step c.args.form.now c.args.bounds.now false i no_term _ c.term_at_corner-lowest.result _
    c.loop-term-test.true below c.term_at_corner-lowest.ensures.value c.loop-term.invariant.lowest in
    let high = corner_step c.args.form.now c.args.bounds.now true i no_term _ c.term_at_corner-highest.result _
    c.loop-term-test.true below c.term_at_corner-highest.ensures.value c.loop-term.invariant.highest in
    record {
      lowest = omega (arith, ints, low);
      highest = omega (arith, ints, high);
      lowest_size = omega (arith, ints);
      highest_size = omega (arith, ints);
    }
