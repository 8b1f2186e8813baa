use Rattle.std.proofs.Common.{ap, length, ◌∙◌, ℤ, pos, arith}
use Rattle.std.proofs.lemmas.List.{length-replicate}
use Rattle.std.proofs.lemmas.Int.{ints}
use Rattle.refutation.proofs.SumLemmas.{zero_at}
use Rattle.refutation.proofs.sum.Sum.zero.Goals as goal

pub invariant_of-result : goal.invariant_of-result
invariant_of-result c = (
  record {
    len = ap length c.zeros.ensures ∙ length-replicate {A = ℤ} 64 (pos 0);
    few = omega arith;
    coefs = λ v lt. omega (arith, ints, zero_at c.zeros.result v c.zeros.ensures);
    constant = omega (arith, ints);
  },
  λ v lt none. zero_at c.zeros.result v c.zeros.ensures,
)

pub returns-clause-coefs : goal.returns-clause-coefs
returns-clause-coefs c = λ v lt. zero_at c.zeros.result v c.zeros.ensures
