-- Quotients of integers by a positive number.
use Rattle.std.specs.Prelude.{ℕ, ℤ, pos, neg_ℤ}
use Rattle.std.specs.Int.{int_div_euclid}

-- the quotient, rounded down
abbrev pub floor_div : ℤ → ℕ → ℤ
floor_div n d = int_div_euclid n (pos d)

-- the quotient, rounded up
abbrev pub ceil_div : ℤ → ℕ → ℤ
ceil_div n d = neg_ℤ (floor_div (neg_ℤ n) d)
