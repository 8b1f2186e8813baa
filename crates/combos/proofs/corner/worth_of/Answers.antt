use Rattle.std.proofs.Common.{◌≡◌, true, false, ◌-ℤ◌, ap, arith}
use Rattle.std.proofs.lemmas.Int.{ints}
use Rattle.lin_model.specs.Form.{form_value}
use Rattle.combos.specs.declared.corner.Worth.{Worth}
use Rattle.combos.specs.Corner.{corner}
use Rattle.combos.proofs.WorthLemmas.{excess-is, shortfall-is}
use Rattle.combos.proofs.corner.worth_of.Goals as goal

pub returns-in-Le-clause-lowest : goal.returns-in-Le-clause-lowest
returns-in-Le-clause-lowest c = λ x is.
    let point = corner c.args.bounds.now false in
    let value : c.excess.result.lowest ≡ form_value c.terms.result.now point -ℤ c.args.comparison.constant
    = omega (arith, ints) in
    excess-is point c.args.comparison.form.now c.terms.result.now c.args.comparison.op c.args.comparison.constant x
    c.excess.result.lowest c.in-Le.is c.terms.ensures value is

pub returns-in-Le-clause-highest : goal.returns-in-Le-clause-highest
returns-in-Le-clause-highest c = λ x is.
    let point = corner c.args.bounds.now true in
    let value : c.excess.result.highest ≡ form_value c.terms.result.now point -ℤ c.args.comparison.constant
    = omega (arith, ints) in
    excess-is point c.args.comparison.form.now c.terms.result.now c.args.comparison.op c.args.comparison.constant x
    c.excess.result.highest c.in-Le.is c.terms.ensures value is

pub returns-in-Ge-clause-lowest : goal.returns-in-Ge-clause-lowest
returns-in-Ge-clause-lowest c = λ x is.
    let point = corner c.args.bounds.now false in
    let value : c.excess-in-Ge.result.lowest ≡ form_value c.terms-in-Ge.result.now point -ℤ c.args.comparison.constant
    = omega (arith, ints) in
    shortfall-is point c.args.comparison.form.now c.terms-in-Ge.result.now c.args.comparison.op
    c.args.comparison.constant x c.excess-in-Ge.result.lowest c.negated.result.lowest c.in-Ge.is c.terms-in-Ge.ensures
    value (ap (λ (w : Worth). w.lowest) c.negated.ensures.value) is

pub returns-in-Ge-clause-highest : goal.returns-in-Ge-clause-highest
returns-in-Ge-clause-highest c = λ x is.
    let point = corner c.args.bounds.now true in
    let value : c.excess-in-Ge.result.highest ≡ form_value c.terms-in-Ge.result.now point -ℤ c.args.comparison.constant
    = omega (arith, ints) in
    shortfall-is point c.args.comparison.form.now c.terms-in-Ge.result.now c.args.comparison.op
    c.args.comparison.constant x c.excess-in-Ge.result.highest c.negated.result.highest c.in-Ge.is c.terms-in-Ge.ensures
    value (ap (λ (w : Worth). w.highest) c.negated.ensures.value) is
