use Rattle.std.proofs.Common.{◌≡◌, ◌+◌, ◌^◌, ◌≤◌, ◌∙◌, ℤ, unsigned_abs, arith, subst, sym}
use Rattle.std.specs.Int.{w64}
use Rattle.std.proofs.lemmas.Int.{to_z-of_z}
use Rattle.lin_model.specs.Integers.{product_is_exact, product_size, widened_is}
use Rattle.combos.proofs.corner.scaled.Goals as goal

pub returns-clause-value : goal.returns-clause-value
returns-clause-value c =
    let small = product_size c.args.coef c.args.side (2 ^ 40) (2 ^ 32 + 1) (omega (arith, c.requires.coef)) c.requires.side in
    product_is_exact c.args.coef c.args.side c.from.result c.from-2.result
    (widened_is c.from.result c.args.coef (c.from.ensures ∙ to_z-of_z w64 c.args.coef c.ranges.coef)
    (omega (arith, c.requires.coef)))
    (widened_is c.from-2.result c.args.side (c.from-2.ensures ∙ to_z-of_z w64 c.args.side c.ranges.side)
    (omega (arith, c.requires.side))) (omega (arith, small))

pub returns-clause-size : goal.returns-clause-size
returns-clause-size c =
    let small = product_size c.args.coef c.args.side (2 ^ 40) (2 ^ 32 + 1) (omega (arith, c.requires.coef)) c.requires.side in
    subst (λ (n : ℤ). unsigned_abs n ≤ 2 ^ 74) (sym (returns-clause-value c)) (omega (arith, small))
