use Rattle.std.proofs.Common.{pos, sym, arith}
use Rattle.std.proofs.lemmas.Int.{ints}
use Rattle.lin_model.specs.declared.form.FormTerm.{FormTerm}
use Rattle.refutation.proofs.BoundsLemmas.{least_step, least_missing, least_end}
use Rattle.refutation.proofs.value.least_within.Goals as goal

abbrev no_term : FormTerm
no_term = record { var = 0; coef = pos 0 }

pub loop-term-preserved : goal.loop-term-preserved
loop-term-preserved c = (
  least_step c.args.terms.now (record { lower = c.args.lo.now; upper = c.args.hi.now }) c.loop-term.term-index
      no_term _ c.in-Some.value _ c.least_of_term.result _ c.loop-term-test.true c.least_of_term.ensures.value
      c.in-Some.is (omega (arith, ints, (c.in-Some.ensures {u = tt}).size)) c.loop-term.invariant.0,
  omega
      (arith, ints, (c.in-Some.ensures {u = tt}).size),
)

pub returns-in-None : goal.returns-in-None
returns-in-None c =
    sym (least_missing c.args.terms.now (record { lower = c.args.lo.now; upper = c.args.hi.now }) c.loop-term.term-index
    no_term _ c.least_of_term.result _ c.loop-term-test.true c.least_of_term.ensures.value c.in-None.is
    c.loop-term.invariant.0)

pub returns : goal.returns
returns c =
    least_end c.args.terms.now (record { lower = c.args.lo.now; upper = c.args.hi.now }) c.loop-term.term-index _ _
    c.loop-term-test.false c.loop-term.invariant.0
