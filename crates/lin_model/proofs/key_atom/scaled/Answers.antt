use Rattle.std.proofs.Common.{◌≡◌, ◌+◌, ◌^◌, ◌≤◌, ◌∙◌, ℤ, unsigned_abs, arith, subst, sym}
use Rattle.std.specs.Int.{w64}
use Rattle.std.proofs.lemmas.Int.{to_z-of_z}
use Rattle.lin_model.specs.Integers.{product_is_exact, product_size, widened_is}
use Rattle.lin_model.proofs.key_atom.scaled.Goals as goal

pub returns-clause-value : goal.returns-clause-value
returns-clause-value c =
    let small = product_size c.args.coef c.args.value (2 ^ 40) (2 ^ 32 + 1) (omega (arith, c.requires.coef)) c.requires.value in
    product_is_exact c.args.coef c.args.value c.from.result c.from-2.result
    (widened_is c.from.result c.args.coef (c.from.ensures ∙ to_z-of_z w64 c.args.coef c.ranges.coef) (omega (arith, c.requires.coef)))
    (widened_is c.from-2.result c.args.value (c.from-2.ensures ∙ to_z-of_z w64 c.args.value c.ranges.value) (omega (arith, c.requires.value)))
    (omega (arith, small))

pub returns-clause-size : goal.returns-clause-size
returns-clause-size c =
    let small = product_size c.args.coef c.args.value (2 ^ 40) (2 ^ 32 + 1) (omega (arith, c.requires.coef)) c.requires.value in
    subst (λ (n : ℤ). unsigned_abs n ≤ 2 ^ 73) (sym (returns-clause-value c)) (omega (arith, small))
