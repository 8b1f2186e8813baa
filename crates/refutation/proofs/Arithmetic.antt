-- A test of an order that fails, and the size of products of integers.
use Rattle.std.proofs.Common.{◌≡◌, ◌+◌, ◌^◌, ◌≤◌, ℤ, ◌*ℤ◌, ◌≤ℤ◌, false, int_lt, unsigned_abs, to_z, of_z, arith, ap}
use Rattle.std.proofs.Common.{◌∙◌}
use Rattle.std.specs.Int.{w128}
use Rattle.std.proofs.lemmas.Bool.{false_from_ne_true}
use Rattle.std.proofs.Math.Nat.{mul-le-mul}
use Rattle.std.proofs.lemmas.Int.{ints, to_z-of_z, unsigned_abs-mul, fits_signed_from_abs}

-- the test of an order that is the other way
pub int_lt-false : (n m : ℤ) → m ≤ℤ n → int_lt n m ≡ false
int_lt-false n m le = false_from_ne_true (int_lt n m) (λ less. omega (arith, ints, less, le))

-- a product of a number of at most 80 bits with a side fits 128 bits, and is at most 2^114 in size
product_size : (a b : ℤ) → unsigned_abs a ≤ 2 ^ 80 → unsigned_abs b ≤ 2 ^ 32 + 1 → unsigned_abs (a *ℤ b) ≤ 2 ^ 114
product_size a b h k =
    omega (arith, unsigned_abs-mul a b, mul-le-mul h k)

pub product_is_exact : (a b p q : ℤ) → p ≡ a → q ≡ b → unsigned_abs a ≤ 2 ^ 80 → unsigned_abs b ≤ 2 ^ 32 + 1
    → to_z w128 (of_z w128 (p *ℤ q)) ≡ a *ℤ b
product_is_exact a b p q pa qb h k =
    ap (λ (x : ℤ). to_z w128 (of_z w128 (x *ℤ q))) pa ∙ ap (λ (x : ℤ). to_z w128 (of_z w128 (a *ℤ x))) qb
    ∙ to_z-of_z w128 (a *ℤ b) (fits_signed_from_abs w128 (a *ℤ b) (omega (arith, product_size a b h k)))

pub product_is_small : (a b r : ℤ) → r ≡ a *ℤ b → unsigned_abs a ≤ 2 ^ 80 → unsigned_abs b ≤ 2 ^ 32 + 1
    → unsigned_abs r ≤ 2 ^ 114
product_is_small a b r is h k = omega (arith, ap unsigned_abs is, product_size a b h k)
