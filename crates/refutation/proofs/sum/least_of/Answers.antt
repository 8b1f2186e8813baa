use Rattle.std.proofs.Common.{arith}
use Rattle.std.proofs.lemmas.Int.{ints}
use Rattle.refutation.proofs.UsedLemmas.{summed-start, summed-step, summed-missing, summed-none_left, summed-end}
use Rattle.refutation.proofs.sum.least_of.Goals as goal

pub loop-turn-init : goal.loop-turn-init
loop-turn-init c = record {
  at = summed-start c.args.coefs.now c.args.bounds.now c.args.used;
  size = omega (arith, ints);
}

pub loop-turn-preserved : goal.loop-turn-preserved
loop-turn-preserved c = record {
  at = summed-step c.args.coefs.now c.args.bounds.now c.args.used c.loop-turn.rest c.loop-turn._turn _
      c.lowest-var.result c.in-Some.value _ c.least_of_variable.result c.without_bit-rest.result c.loop-turn.invariant.at
      c.requires.used c.lowest-var.ensures.place c.lowest-var.ensures.set c.lowest-var.ensures.below
      c.least_of_variable.ensures.value c.in-Some.is (omega (arith, ints, c.in-Some.ensures.size))
      c.without_bit-rest.ensures.same c.without_bit-rest.ensures.others;
  size = omega (arith, ints, c.in-Some.ensures.size);
}

pub returns-in-None-clause-value : goal.returns-in-None-clause-value
returns-in-None-clause-value c =
    summed-missing c.args.coefs.now c.args.bounds.now c.args.used c.loop-turn.rest c.loop-turn._turn _
    c.lowest-var.result c.least_of_variable.result c.loop-turn.invariant.at c.requires.used
    c.lowest-var.ensures.place c.lowest-var.ensures.set c.lowest-var.ensures.below c.least_of_variable.ensures.value
    c.in-None.is

pub returns-then-rest-eq0-clause-value : goal.returns-then-rest-eq0-clause-value
returns-then-rest-eq0-clause-value c =
    summed-none_left c.args.coefs.now c.args.bounds.now c.args.used c.loop-turn.rest c.loop-turn._turn _
    c.loop-turn.invariant.at c.requires.used c.if-rest-eq0.true

pub returns-clause-value : goal.returns-clause-value
returns-clause-value c =
    summed-end c.args.coefs.now c.args.bounds.now c.args.used c.loop-turn.rest c.loop-turn._turn _
    c.loop-turn.invariant.at c.loop-turn-test.false
