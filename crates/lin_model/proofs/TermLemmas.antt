-- The value of a side that grows at its end, and the size of a factor.
use Rattle.std.proofs.Common.{◌≡◌, ℕ, ◌+◌, ◌<◌, ◌≤◌, List, [], ◌∷◌, ◌++◌, length, take, get_or, ℤ, ◌+ℤ◌, arith, ap, sym}
use Rattle.std.proofs.Common.{◌∙◌}
use Rattle.std.specs.Prelude.{◌^◌, Option, Some, None, unsigned_abs}
use Rattle.std.proofs.lemmas.Int.{ints}
use Rattle.std.proofs.lemmas.List.{take_more}
use Rattle.lin_model.specs.Terms.{PlainTerm, TermFits, term_value, value_of}

pub value_of-push : (terms : List PlainTerm) (term : PlainTerm) (values : List ℤ)
    → value_of (terms ++ term ∷ []) values ≡ value_of terms values +ℤ term_value term values
value_of-push [] term values = omega (arith, ints)
value_of-push (t ∷ terms) term values =
    let ih = value_of-push terms term values in
    omega (arith, ints, ih)

-- the terms up to one more place
pub value_of_more : (terms : List PlainTerm) (k : ℕ) (term : PlainTerm) (values : List ℤ) → k < length terms
    → term ≡ get_or terms k term → value_of (take (k + 1) terms) values ≡ value_of (take k terms) values
    +ℤ term_value term values
value_of_more terms k term values within is =
    ap (λ (xs : List PlainTerm). value_of xs values) (take_more terms k term within
    ∙ ap (λ (t : PlainTerm). take k terms ++ t ∷ []) (sym is))
    ∙ value_of-push (take k terms) term values

-- the size of a sum
pub abs-add : (a b : ℤ) → unsigned_abs (a +ℤ b) ≤ unsigned_abs a + unsigned_abs b
abs-add a b = omega (arith, ints)

-- the factor of a term, be it one of a variable or a constant, has at most 40 bits
pub factor_is_small : (factor : ℤ) (var : Option ℕ) → TermFits (record { factor = factor; var = var })
    → unsigned_abs factor ≤ 2 ^ 40
factor_is_small factor None fits = omega (arith, fits)
factor_is_small factor (Some var) fits = omega (arith, fits)
