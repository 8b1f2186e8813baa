use Rattle.std.proofs.Common.{ap, arith}
use Rattle.std.specs.Prelude.{unsigned_abs}
use Rattle.std.proofs.lemmas.Int.{ints}
use Rattle.std.proofs.lemmas.List.Elements.{All-more, at_read}
use Rattle.lin_model.specs.Terms.{TermFits}
use Rattle.canoniser.proofs.GatheredLemmas.{factor_on_more, constants_of_more, factor_on-within, constants_of-within}
use Rattle.canoniser.proofs.side.side_of.Goals as goal

pub add-requires-clause-small_factors : goal.add-requires-clause-small_factors
add-requires-clause-small_factors c v low =
    omega (
      arith,
      ap unsigned_abs (c.loop-term.invariant.factors v low),
      factor_on-within v c.loop-term.term-index c.args.terms.now (omega arith) c.loop-term.invariant.fits,
    )

pub add-requires-clause-small_constant : goal.add-requires-clause-small_constant
add-requires-clause-small_constant c =
    omega (
      arith,
      ap unsigned_abs c.loop-term.invariant.constant,
      constants_of-within c.loop-term.term-index c.args.terms.now (omega arith) c.loop-term.invariant.fits,
    )

pub loop-term-preserved : goal.loop-term-preserved
loop-term-preserved c = record {
  factors = λ v low. omega (
    arith,
    ints,
    c.add.ensures.factors v low,
    c.loop-term.invariant.factors v low,
    factor_on_more v c.args.terms.now c.loop-term.term-index c.term-item.result c.loop-term-test.true c.term-item.is,
  );
  constant = omega (
    arith,
    ints,
    c.add.ensures.constant,
    c.loop-term.invariant.constant,
    constants_of_more c.args.terms.now c.loop-term.term-index c.term-item.result c.loop-term-test.true
        c.term-item.is,
  );
  fits = All-more TermFits c.args.terms.now c.loop-term.term-index c.term-item.result c.loop-term-test.true
      c.loop-term.invariant.fits
      (at_read c.args.terms.now TermFits c.loop-term.term-index c.term-item.result c.loop-term-test.true c.term-item.is
      c.add.ensures.fits c.term-item.result);
}

pub returns-clause-small_factors : goal.returns-clause-small_factors
returns-clause-small_factors c v low =
    omega (
      arith,
      ap unsigned_abs (c.loop-term.invariant.factors v low),
      factor_on-within v c.loop-term.term-index c.args.terms.now (omega arith) c.loop-term.invariant.fits,
    )

pub returns-clause-small_constant : goal.returns-clause-small_constant
returns-clause-small_constant c =
    omega (
      arith,
      ap unsigned_abs c.loop-term.invariant.constant,
      constants_of-within c.loop-term.term-index c.args.terms.now (omega arith) c.loop-term.invariant.fits,
    )
