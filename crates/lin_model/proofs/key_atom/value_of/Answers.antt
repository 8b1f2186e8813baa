use Rattle.std.proofs.Common.{pos, arith}
use Rattle.std.proofs.lemmas.Int.{ints}
use Rattle.lin_model.specs.declared.form.FormTerm.{FormTerm}
use Rattle.lin_model.proofs.FormLemmas.{variable_below, value_step}
use Rattle.lin_model.proofs.key_atom.value_of.Goals as goal

pub term_value-sum-requires-clause-wide : goal.term_value-sum-requires-clause-wide
term_value-sum-requires-clause-wide c =
    variable_below c.args.terms.now _ c.loop-term.term-index
    (record { var = 0; coef = pos 0 }) c.loop-term-test.true c.requires.wide

pub loop-term-preserved : goal.loop-term-preserved
loop-term-preserved c =
    let d : FormTerm = record { var = 0; coef = pos 0 } in
    let step = value_step c.args.terms.now c.args.values.now c.loop-term.term-index d _ c.term_value-sum.result _
    c.loop-term-test.true c.term_value-sum.ensures.value c.loop-term.invariant.0 in
    (omega (arith, ints, step), omega (arith, ints))
