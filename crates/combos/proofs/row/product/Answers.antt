use Rattle.std.proofs.Common.{◌≡◌, ◌^◌, ◌≤◌, ◌∙◌, ℤ, unsigned_abs, arith, subst, sym}
use Rattle.std.specs.Int.{w64}
use Rattle.std.proofs.lemmas.Int.{ints, to_z-of_z}
use Rattle.lin_model.specs.Integers.{product_is_exact, product_size, widened_is}
use Rattle.combos.proofs.row.product.Goals as goal

pub returns-clause-value : goal.returns-clause-value
returns-clause-value c =
    let a_few : unsigned_abs c.args.a ≤ 2 ^ 63 = omega (arith, ints, c.ranges.a) in
    let b_few : unsigned_abs c.args.b ≤ 2 ^ 63 = omega (arith, ints, c.ranges.b) in
    product_is_exact c.args.a c.args.b c.from.result c.from-2.result
    (widened_is c.from.result c.args.a (c.from.ensures ∙ to_z-of_z w64 c.args.a c.ranges.a) a_few)
    (widened_is c.from-2.result c.args.b (c.from-2.ensures ∙ to_z-of_z w64 c.args.b c.ranges.b) b_few)
    (omega (arith, product_size c.args.a c.args.b (2 ^ 63) (2 ^ 63) a_few b_few))

pub returns-clause-size : goal.returns-clause-size
returns-clause-size c =
    let a_few : unsigned_abs c.args.a ≤ 2 ^ 63 = omega (arith, ints, c.ranges.a) in
    let b_few : unsigned_abs c.args.b ≤ 2 ^ 63 = omega (arith, ints, c.ranges.b) in
    subst (λ (n : ℤ). unsigned_abs n ≤ 2 ^ 126) (sym (returns-clause-value c))
    (omega (arith, product_size c.args.a c.args.b (2 ^ 63) (2 ^ 63) a_few b_few))
