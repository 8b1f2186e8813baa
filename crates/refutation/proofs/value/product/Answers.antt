use Rattle.std.specs.Int.{w128}
use Rattle.std.proofs.Common.{arith}
use Rattle.std.proofs.lemmas.Int.{to_z-of_z, ints}
use Rattle.refutation.proofs.Arithmetic.{product_is_exact, product_is_small}
use Rattle.refutation.proofs.value.product.Goals as goal

pub returns-clause-value : goal.returns-clause-value
returns-clause-value c =
    product_is_exact c.args.coef c.args.side _ _ (to_z-of_z w128 c.args.coef c.ranges.coef)
    (omega (arith, ints, c.from.ensures, c.ranges.side)) c.requires.coef c.requires.side

pub returns-clause-size : goal.returns-clause-size
returns-clause-size c =
    product_is_small c.args.coef c.args.side _ (returns-clause-value c) c.requires.coef c.requires.side
