-- The code's form of a sum of multiples: one coefficient for each variable.
use Rattle.std.specs.Prelude.{◌≡◌, ℕ, ◌+◌, ◌*◌, ◌^◌, ◌<◌, ◌≤◌, ℤ, pos, ◌+ℤ◌, ◌-ℤ◌, ◌*ℤ◌, Bool, true, false, int_lt}
use Rattle.std.specs.Prelude.{Option, Some, None, List, map, length, unsigned_abs, slice_index_or}
use Rattle.std.specs.Int.{bit_at}
use Rattle.std.specs.Option.{option_map_or}
use Rattle.lin_model.specs.declared.form.FormTerm.{FormTerm}
use Rattle.refutation.specs.Bounds.{PlainBounds, variables, least}
use Rattle.refutation.specs.Leaf.{Multiple, coefficient_of}

-- the coefficients of 64 variables, what is subtracted, and how many multiples were added
pub record PlainSum : Type 0 where
  pub coefs : List ℤ
  pub constant : ℤ
  pub count : ℕ

-- the coefficient of a variable
abbrev pub coef_at : PlainSum → ℕ → ℤ
coef_at s v = slice_index_or s.coefs v (pos 0)

-- the coefficients as a form with a term for each variable
unfoldable pub dense_form : List ℤ → List FormTerm
dense_form coefs = map (λ v. record { var = v; coef = slice_index_or coefs v (pos 0) }) variables

-- the least value of the sum within the bounds is known and positive
abbrev pub is_positive_within : PlainSum → PlainBounds → Bool
is_positive_within s b = option_map_or (λ n. int_lt (pos 0) (n -ℤ s.constant)) (least (dense_form s.coefs) b) false

-- the new sum has one multiple more
pub record AddsMultiple (old new : PlainSum) (m : Multiple) : Type 0 where
  pub coefs : (v : ℕ) → v < 64 → coef_at new v ≡ coef_at old v +ℤ (m.weight *ℤ coefficient_of m.form v)
  pub constant : new.constant ≡ old.constant +ℤ (m.weight *ℤ m.constant)
  pub count : new.count ≡ old.count + 1

-- one multiple is there, and the new sum has it more; where it isn't, there is no word of the new sum
abbrev pub AddsIfSome : Option Multiple → PlainSum → PlainSum → Bool → Type 0
AddsIfSome None old new added = added ≡ false
AddsIfSome (Some m) old new added = (added ≡ true) × AddsMultiple old new m

-- a sum of at most eight multiples, each within the limits of a leaf
pub record IsSum (s : PlainSum) : Type 0 where
  pub len : length s.coefs ≡ 64
  pub few : s.count ≤ 8
  pub coefs : (v : ℕ) → v < 64 → unsigned_abs (coef_at s v) ≤ 2 ^ 77 * s.count
  pub constant : unsigned_abs s.constant ≤ 2 ^ 82 * s.count

-- a coefficient whose variable has no bit is 0
abbrev pub MarksUsed : ℕ → List ℤ → Type 0
MarksUsed used coefs = (v : ℕ) → v < 64 → bit_at used v ≡ 0 → slice_index_or coefs v (pos 0) ≡ pos 0
