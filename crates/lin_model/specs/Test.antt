-- The test that a canonical atom puts to the value of its form.
use Rattle.std.specs.Prelude.{◌≡◌, ◌≢◌, ℕ, ℤ, ◌≤ℤ◌, Bool, int_le, not}
use Rattle.std.specs.Ordering.{int_eq}
use Rattle.lin_model.specs.declared.op.Op.{Op}
use Rattle.lin_model.specs.declared.op.Op.TheVariants.{Le, Ge, Eq, Ne}

-- the integer n passes `op c`
abbrev pub passes : Op → ℤ → ℤ → Bool
passes Le c n = int_le n c
passes Ge c n = int_le c n
passes Eq c n = int_eq n c
passes Ne c n = not (int_eq n c)

-- what that means
abbrev pub Passes : Op → ℤ → ℤ → Type 0
Passes Le c n = n ≤ℤ c
Passes Ge c n = c ≤ℤ n
Passes Eq c n = n ≡ c
Passes Ne c n = n ≢ c

-- the number that stands for an op in orders and files
abbrev pub code_of : Op → ℕ
code_of Le = 1
code_of Ge = 2
code_of Eq = 3
code_of Ne = 4
