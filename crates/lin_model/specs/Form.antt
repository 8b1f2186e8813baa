-- Linear forms: what they are worth at a point, and the divisors of their coefficients.
use Rattle.std.specs.Prelude.{ℕ, zero, suc, ◌%◌, max, ℤ, pos, ◌+ℤ◌, ◌*ℤ◌, List, [], ◌∷◌, unsigned_abs, slice_index_or}
use Rattle.std.specs.Int.{◌∣◌}
use Rattle.std.specs.List.{All}
use Rattle.lin_model.specs.declared.form.FormTerm.{FormTerm}

-- the value of the variable of this number, the values being given in the order of the variables
abbrev pub value_at : List ℤ → ℕ → ℤ
value_at point v = slice_index_or point v (pos 0)

-- the sum of the terms, each its coefficient times the value of its variable
abbrev pub form_value : List FormTerm → List ℤ → ℤ
form_value [] point = pos 0
form_value (t ∷ ts) point = (t.coef *ℤ value_at point t.var) +ℤ form_value ts point

-- one more than the greatest variable of the form, 0 where it has none
abbrev pub form_width : List FormTerm → ℕ
form_width [] = 0
form_width (t ∷ ts) = max (suc t.var) (form_width ts)

-- Euclid's walk of a and b: each number gives way to a remainder, in at most this many steps
unfoldable pub gcd_within : ℕ → ℕ → ℕ → ℕ
gcd_within steps a zero = a
gcd_within zero a (suc b) = a
gcd_within (suc steps) a (suc b) = gcd_within steps (suc b) (a % suc b)

-- the greatest common divisor of two numbers; the remainders fall, so b steps are enough
unfoldable pub gcd : ℕ → ℕ → ℕ
gcd a b = gcd_within b a b

-- the greatest common divisor of the coefficients, 0 where there are none or all are 0
unfoldable pub divisor : List FormTerm → ℕ
divisor [] = 0
divisor (t ∷ ts) = gcd (unsigned_abs t.coef) (divisor ts)

-- d divides each coefficient
abbrev pub DividesAll : ℕ → List FormTerm → Type 0
DividesAll d form = All (λ t. d ∣ unsigned_abs t.coef) form

-- g is the greatest common divisor of the coefficients: it divides each, and whatever divides each divides it
pub record IsGcdOf (form : List FormTerm) (g : ℕ) : Type 0 where
  pub divides : DividesAll g form
  pub greatest : (d : ℕ) → DividesAll d form → d ∣ g
