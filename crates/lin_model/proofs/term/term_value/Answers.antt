use Rattle.std.proofs.Common.{◌≡◌, ◌^◌, ◌≤◌, ◌∙◌, ℤ, ◌*ℤ◌, unsigned_abs, arith, ap, subst, sym}
use Rattle.std.specs.Int.{w64}
use Rattle.std.proofs.lemmas.Int.{to_z-of_z, ints}
use Rattle.lin_model.specs.Terms.{PlainTerm, term_value}
use Rattle.lin_model.specs.Integers.{product_is_exact, product_size, widened_is}
use Rattle.lin_model.proofs.TermLemmas.{factor_is_small}
use Rattle.lin_model.proofs.term.term_value.Goals as goal

pub returns-clause-value : goal.returns-clause-value
returns-clause-value c =
    let factor = c.term.inside.factor in
    let few = factor_is_small factor c.term.inside.var c.term.invariant in
    let weight_few : unsigned_abs c.weight.result ≤ 2 ^ 63 = omega (arith, ints, c.weight.type_inv) in
    let size = product_size factor c.weight.result (2 ^ 40) (2 ^ 63) few weight_few in
    let exact = product_is_exact factor c.weight.result c.from.result c.from-2.result
    (widened_is c.from.result factor (c.from.ensures ∙ search (ints, to_z-of_z)) (omega (arith, few)))
    (widened_is c.from-2.result c.weight.result (c.from-2.ensures ∙ search (ints, to_z-of_z)) weight_few)
    (omega (arith, size)) in
    exact ∙ (ap (λ (n : ℤ). factor *ℤ n) c.weight.ensures
    ∙ ap (λ (t : PlainTerm). term_value t c.args.values.now) c.term.view_is)

pub returns-clause-small : goal.returns-clause-small
returns-clause-small c =
    let few = factor_is_small c.term.inside.factor c.term.inside.var c.term.invariant in
    let weight_few : unsigned_abs c.weight.result ≤ 2 ^ 63 = omega (arith, ints, c.weight.type_inv) in
    let size = product_size c.term.inside.factor c.weight.result (2 ^ 40) (2 ^ 63) few weight_few in
    let is = returns-clause-value c
    ∙ sym (ap (λ (n : ℤ). c.term.inside.factor *ℤ n) c.weight.ensures
    ∙ ap (λ (t : PlainTerm). term_value t c.args.values.now) c.term.view_is) in
    subst (λ (n : ℤ). unsigned_abs n ≤ 2 ^ 103) (sym is) (omega (arith, size))
