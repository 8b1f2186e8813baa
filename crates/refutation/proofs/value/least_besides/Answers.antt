use Rattle.std.proofs.Common.{pos, sym, arith}
use Rattle.std.proofs.lemmas.Int.{ints}
use Rattle.lin_model.specs.declared.form.FormTerm.{FormTerm}
use Rattle.refutation.proofs.OthersLemmas.{others_step, others_missing, others_end}
use Rattle.refutation.proofs.value.least_besides.Goals as goal

abbrev no_term : FormTerm
no_term = record { var = 0; coef = pos 0 }

pub loop-term-preserved : goal.loop-term-preserved
loop-term-preserved c = (
  others_step c.args.terms.now (record { lower = c.args.lo.now; upper = c.args.hi.now }) c.args.var
      c.loop-term.term-index no_term _ c.in-Some.value _ c.least_of_other.result _ c.loop-term-test.true
      c.least_of_other.ensures.value c.in-Some.is (omega (arith, ints, (c.in-Some.ensures {u = tt}).size))
      c.loop-term.invariant.0,
  omega
      (arith, ints, (c.in-Some.ensures {u = tt}).size),
)

pub returns-in-None-clause-value : goal.returns-in-None-clause-value
returns-in-None-clause-value c =
    sym (others_missing c.args.terms.now (record { lower = c.args.lo.now; upper = c.args.hi.now }) c.args.var
    c.loop-term.term-index no_term _ c.least_of_other.result _ c.loop-term-test.true c.least_of_other.ensures.value
    c.in-None.is c.loop-term.invariant.0)

pub returns-clause-value : goal.returns-clause-value
returns-clause-value c =
    others_end c.args.terms.now (record { lower = c.args.lo.now; upper = c.args.hi.now }) c.args.var
    c.loop-term.term-index _ _ c.loop-term-test.false c.loop-term.invariant.0
