use Rattle.std.proofs.Common.{arith}
use Rattle.std.proofs.lemmas.Int.{ints}
use Rattle.lin_model.proofs.TermLemmas.{value_of_more}
use Rattle.lin_model.proofs.term.value_of.Goals as goal

pub loop-term-preserved : goal.loop-term-preserved
loop-term-preserved c =
    let more = value_of_more c.args.terms.now c.loop-term.term-index c.term-item.result c.args.values.now
    c.loop-term-test.true c.term-item.is in
    record { so_far = omega (arith, ints, more); small = omega (arith, ints) }
