use Rattle.std.proofs.Common.{arith}
use Rattle.layers.proofs.HalvingLemmas.{count_fits, few_layers}
use Rattle.layers.proofs.version.count_of.Goals as goal

pub overflow_cast-result : goal.overflow_cast-result
overflow_cast-result c = omega (arith, count_fits c.args.layers.now c.requires.halving c.requires.few)

pub returns-clause-few : goal.returns-clause-few
returns-clause-few c = few_layers c.args.layers.now c.requires.halving
