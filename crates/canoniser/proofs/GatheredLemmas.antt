-- The sums of a side's terms, one term after another.
use Rattle.std.proofs.Common.{◌≡◌, ℕ, ◌+◌, ◌*◌, ◌^◌, ◌<◌, ◌≤◌, Bool, true, false, List, [], ◌∷◌, ◌++◌, length, take}
use Rattle.std.proofs.Common.{get_or, replicate, ⊎_elim, ℤ, pos, ◌+ℤ◌, arith, ap, sym, ◌∙◌}
use Rattle.std.specs.Prelude.{◌==◌, unsigned_abs, Option, Some, None, is_some, if◌then◌else◌, All}
use Rattle.std.proofs.lemmas.Int.{ints}
use Rattle.std.proofs.lemmas.List.{take_more, get_or-replicate, get_or_past, length-replicate, length-take}
use Rattle.std.proofs.lemmas.Bool.{cases_lt}
use Rattle.std.proofs.lemmas.List.Elements.{All-head, All-tail}
use Rattle.lin_model.specs.Terms.{PlainTerm, TermFits, limit_of}
use Rattle.canoniser.specs.Gathered.{is_on, factor_on, constants_of}

factor_on-push : (v : ℕ) (terms : List PlainTerm) (term : PlainTerm)
    → factor_on v (terms ++ term ∷ []) ≡ (if is_on term.var v then term.factor else pos 0) +ℤ factor_on v terms
factor_on-push v [] term = omega (arith, ints)
factor_on-push v (t ∷ terms) term =
    let ih = factor_on-push v terms term in
    omega (arith, ints, ih)

constants_of-push : (terms : List PlainTerm) (term : PlainTerm)
    → constants_of (terms ++ term ∷ []) ≡ (if is_some term.var then pos 0 else term.factor) +ℤ constants_of terms
constants_of-push [] term = omega (arith, ints)
constants_of-push (t ∷ terms) term =
    let ih = constants_of-push terms term in
    omega (arith, ints, ih)

-- the terms up to one more place
pub factor_on_more : (v : ℕ) (terms : List PlainTerm) (k : ℕ) (term : PlainTerm) → k < length terms
    → term ≡ get_or terms k term → factor_on v
    (take (k + 1) terms) ≡ (if is_on term.var v then term.factor else pos 0) +ℤ factor_on v (take k terms)
factor_on_more v terms k term within is =
    ap (factor_on v) (take_more terms k term within ∙ ap (λ (t : PlainTerm). take k terms ++ t ∷ []) (sym is))
    ∙ factor_on-push v (take k terms) term

pub constants_of_more : (terms : List PlainTerm) (k : ℕ) (term : PlainTerm) → k < length terms
    → term ≡ get_or terms k term → constants_of
    (take (k + 1) terms) ≡ (if is_some term.var then pos 0 else term.factor) +ℤ constants_of (take k terms)
constants_of_more terms k term within is =
    ap constants_of (take_more terms k term within ∙ ap (λ (t : PlainTerm). take k terms ++ t ∷ []) (sym is))
    ∙ constants_of-push (take k terms) term

-- what one term adds
chosen-small : (test : Bool) (factor : ℤ) (most : ℕ) → unsigned_abs factor ≤ most
    → unsigned_abs (if test then factor else pos 0) ≤ most
chosen-small true factor most fits = fits
chosen-small false factor most fits = omega arith

on-small : (var : Option ℕ) (v : ℕ) (factor : ℤ) → unsigned_abs factor ≤ limit_of var
    → unsigned_abs (if is_on var v then factor else pos 0) ≤ 2 ^ 31
on-small None v factor fits = omega arith
on-small (Some w) v factor fits = chosen-small (w == v) factor (2 ^ 31) fits

constant-small : (var : Option ℕ) (factor : ℤ) → unsigned_abs factor ≤ limit_of var
    → unsigned_abs (if is_some var then pos 0 else factor) ≤ 2 ^ 40
constant-small None factor fits = fits
constant-small (Some w) factor fits = omega arith

-- each term adds at most 2^31 to a factor, and 2^40 to the constant
pub factor_on-small : (v : ℕ) (terms : List PlainTerm) → All TermFits terms
    → unsigned_abs (factor_on v terms) ≤ 2 ^ 31 * length terms
factor_on-small v [] fits = omega arith
factor_on-small v (t ∷ terms) fits =
    let ih = factor_on-small v terms (All-tail TermFits t terms fits) in
    let one = on-small t.var v t.factor (All-head TermFits t terms fits) in
    omega (arith, ints, ih, one)

pub constants_of-small : (terms : List PlainTerm) → All TermFits terms
    → unsigned_abs (constants_of terms) ≤ 2 ^ 40 * length terms
constants_of-small [] fits = omega arith
constants_of-small (t ∷ terms) fits =
    let ih = constants_of-small terms (All-tail TermFits t terms fits) in
    let one = constant-small t.var t.factor (All-head TermFits t terms fits) in
    omega (arith, ints, ih, one)

-- a table of zeros
pub zeros : (v : ℕ) → get_or (replicate 64 (pos 0)) v (pos 0) ≡ pos 0
zeros v =
    ⊎_elim (λ low. get_or-replicate 64 v (pos 0) (pos 0) low)
    (λ past. get_or_past (replicate 64 (pos 0)) v (pos 0) (omega (arith, length-replicate {A = ℤ} 64 (pos 0))))
    (cases_lt v 64)

-- a sum of at most 64 terms is small
pub factor_on-within : (v k : ℕ) (terms : List PlainTerm) → k ≤ 64 → All TermFits (take k terms)
    → unsigned_abs (factor_on v (take k terms)) ≤ 2 ^ 37
factor_on-within v k terms few fits = omega (arith, factor_on-small v (take k terms) fits, length-take k terms)

pub constants_of-within : (k : ℕ) (terms : List PlainTerm) → k ≤ 64 → All TermFits (take k terms)
    → unsigned_abs (constants_of (take k terms)) ≤ 2 ^ 46
constants_of-within k terms few fits = omega (arith, constants_of-small (take k terms) fits, length-take k terms)
