-- The greatest common divisor of a form's coefficients, its width and its value, one term after another.
use Rattle.std.proofs.Common.{◌≤◌, ◌≡◌, ℕ, suc, ◌+◌, ◌<◌, max, ℤ, ◌+ℤ◌, ◌*ℤ◌, List, [], ◌∷◌, length, take, drop, get_or}
use Rattle.std.proofs.Common.{unsigned_abs, ap, arith}
use Rattle.std.specs.Int.{IsGcd, ◌∣◌}
use Rattle.std.specs.List.{All}
use Rattle.std.proofs.lemmas.Nat.Gcd.{dvd_trans}
use Rattle.std.proofs.lemmas.List.{get_or-take, length-take, drop_more}
use Rattle.std.proofs.lemmas.Int.{ints}
use Rattle.std.proofs.lemmas.List.Elements.{All-more, All-weaker, All-nil, All-cons}
use Rattle.lin_model.specs.declared.form.FormTerm.{FormTerm}
use Rattle.lin_model.specs.Form.{IsGcdOf, DividesAll, form_width, form_value, value_at}

-- what divides one more coefficient divides those before it, and the last one
DividesAll-fewer : (form : List FormTerm) (i e : ℕ) → DividesAll e (take (i + 1) form) → DividesAll e (take i form)
DividesAll-fewer form i e all = λ k x lt.
    let low : k < i = omega (arith, length-take i form) in
    let in_more : k < length (take (i + 1) form) = omega (arith, length-take i form, length-take (i + 1) form) in
    rw (get_or-take i form k x low, ← get_or-take (i + 1) form k x (omega arith)) (all k x in_more)

DividesAll-last : (form : List FormTerm) (i : ℕ) (d : FormTerm) (e : ℕ) → i < length form
    → DividesAll e (take (i + 1) form) → e ∣ unsigned_abs (get_or form i d).coef
DividesAll-last form i d e lt all =
    rw (← get_or-take (i + 1) form i d (omega arith)) (all i d (omega (arith, length-take (i + 1) form)))

-- a common divisor is that of the terms so far and of the next
pub IsGcdOf-more : (form : List FormTerm) (i : ℕ) (d : FormTerm) (g h : ℕ) → i < length form → IsGcdOf (take i form) g
    → IsGcd g (unsigned_abs (get_or form i d).coef) h → IsGcdOf (take (i + 1) form) h
IsGcdOf-more form i d g h lt before two = record {
  divides = All-more (λ t. h ∣ unsigned_abs t.coef) form i d lt
      (All-weaker (λ t. g ∣ unsigned_abs t.coef) (λ t. h ∣ unsigned_abs t.coef) (λ t. dvd_trans h two.0) (take i form)
      before.divides) two.1;
  greatest = λ e all. two.2 e (before.greatest e (DividesAll-fewer form i e all)) (DividesAll-last form i d e lt all);
}

-- one more term of the width and of the value, from the front
pub form_width-rest : (form : List FormTerm) (i : ℕ) (d : FormTerm) → i < length form → form_width (drop i form)
    ≡ max (suc (get_or form i d).var) (form_width (drop (i + 1) form))
form_width-rest form i d lt = ap form_width (drop_more form i d lt)

pub form_value-rest : (form : List FormTerm) (point : List ℤ) (i : ℕ) (d : FormTerm) → i < length form
    → form_value (drop i form) point ≡ ((get_or form i d).coef *ℤ value_at point (get_or form i d).var) +ℤ form_value
    (drop (i + 1) form) point
form_value-rest form point i d lt = ap (λ f. form_value f point) (drop_more form i d lt)

-- each variable is below the width
pub form_width-above : (form : List FormTerm) → All (λ t. t.var < form_width form) form
form_width-above [] = All-nil (λ t. t.var < form_width [])
form_width-above (t ∷ ts) = All-cons (λ u. u.var < max (suc t.var) (form_width ts)) t ts (omega arith)
    (All-weaker (λ u. u.var < form_width ts) (λ u. u.var < max (suc t.var) (form_width ts)) (λ u h. omega arith) ts
    (form_width-above ts))

-- a variable of the form is below whatever the width is at most
pub variable_below : (form : List FormTerm) (n i : ℕ) (d : FormTerm) → i < length form → form_width form ≤ n
    → (get_or form i d).var < n
variable_below form n i d lt wide = omega (arith, form_width-above form i d lt)

-- one more term of a sum, whose size is at most 2^72 a term
pub value_step : (form : List FormTerm) (point : List ℤ) (i : ℕ) (d : FormTerm) (sum product whole : ℤ)
    → i < length form → product ≡ (get_or form i d).coef *ℤ value_at point (get_or form i d).var
    → sum +ℤ form_value (drop i form) point ≡ whole → (sum +ℤ product) +ℤ form_value (drop (i + 1) form) point ≡ whole
value_step form point i d sum product whole lt is before =
    omega (arith, ints, form_value-rest form point i d lt, is, before)
