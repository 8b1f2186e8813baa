-- Laws of products of integers and of their size in the code, that a factor keeps the order or turns it, and what tests
-- of order say. They say nothing of this crate: the proofs of crates above use them.
use Rattle.std.proofs.Common.{◌≡◌, ◌∙◌, ℕ, suc, ◌*◌, ◌^◌, ◌≤◌, ℤ, pos, negsuc, ◌+ℤ◌, ◌*ℤ◌, ◌≤ℤ◌, unsigned_abs, to_z, of_z, arith, ap}
use Rattle.std.specs.Prelude.{◌≢◌, ◌<ℤ◌, ◌==◌, int_le, int_lt, if◌then◌else◌}
use Rattle.std.specs.Bool.{Decides}
use Rattle.std.specs.Int.{w128}
use Rattle.std.proofs.Math.Nat.{mul-le-mul, mul-le-mul_left}
use Rattle.std.proofs.lemmas.Int.{ints, to_z-of_z, unsigned_abs-mul, fits_signed_from_abs}
use Rattle.std.proofs.lemmas.Bool.Decides.{nat_tests}
use borrow.Author.Differences.{up, down, sum_is_lem, product_is, le_out}

-- a sum times a factor
pub distrib_right : (a b c : ℤ) → (a +ℤ b) *ℤ c ≡ (a *ℤ c) +ℤ (b *ℤ c)
distrib_right a b c =
    omega (arith, ints, ap (λ (x : ℕ). x * up c) (sum_is_lem a b), ap (λ (x : ℕ). x * down c) (sum_is_lem a b))

-- a factor times a sum
pub distrib_left : (a b c : ℤ) → a *ℤ (b +ℤ c) ≡ (a *ℤ b) +ℤ (a *ℤ c)
distrib_left a b c =
    omega (arith, ints, ap (λ (x : ℕ). up a * x) (sum_is_lem b c), ap (λ (x : ℕ). down a * x) (sum_is_lem b c))

-- three factors
pub times_assoc : (a b c : ℤ) → (a *ℤ b) *ℤ c ≡ a *ℤ (b *ℤ c)
times_assoc a b c =
    omega (
      arith,
      ints,
      ap (λ (x : ℕ). x * up c) (product_is a b).0,
      ap (λ (x : ℕ). x * down c) (product_is a b).0,
      ap (λ (x : ℕ). x * up c) (product_is a b).1,
      ap (λ (x : ℕ). x * down c) (product_is a b).1,
      ap (λ (x : ℕ). up a * x) (product_is b c).0,
      ap (λ (x : ℕ). down a * x) (product_is b c).0,
      ap (λ (x : ℕ). up a * x) (product_is b c).1,
      ap (λ (x : ℕ). down a * x) (product_is b c).1,
    )

-- a factor that isn't negative keeps the order
pub scale_up : (n : ℕ) (x y : ℤ) → x ≤ℤ y → (pos n *ℤ x) ≤ℤ (pos n *ℤ y)
scale_up n x y h = omega (arith, ints, mul-le-mul_left n (le_out x y h))

-- a negative one turns it
pub scale_down : (n : ℕ) (x y : ℤ) → x ≤ℤ y → (negsuc n *ℤ y) ≤ℤ (negsuc n *ℤ x)
scale_down n x y h = omega (arith, ints, mul-le-mul_left (suc n) (le_out x y h))

-- a product is at most as large as the product of the bounds of its factors
pub product_size : (a b : ℤ) (m n : ℕ) → unsigned_abs a ≤ m → unsigned_abs b ≤ n → unsigned_abs (a *ℤ b) ≤ m * n
product_size a b m n h k = omega (arith, unsigned_abs-mul a b, mul-le-mul h k)

-- a product of size at most 2^126, whose factors are these, is exact
pub product_is_exact : (a b p q : ℤ) → to_z w128 (of_z w128 p) ≡ a → to_z w128 (of_z w128 q) ≡ b
    → unsigned_abs (a *ℤ b) ≤ 2 ^ 126
    → to_z w128 (of_z w128 (to_z w128 (of_z w128 p) *ℤ to_z w128 (of_z w128 q))) ≡ a *ℤ b
product_is_exact a b p q pa qb h =
    ap (λ (x : ℤ). to_z w128 (of_z w128 (x *ℤ to_z w128 (of_z w128 q)))) pa
    ∙ ap (λ (x : ℤ). to_z w128 (of_z w128 (a *ℤ x))) qb
    ∙ to_z-of_z w128 (a *ℤ b) (fits_signed_from_abs w128 (a *ℤ b) (omega (arith, h)))

-- a number of at most 64 bits stays what it is in 128
pub widened_is : (p a : ℤ) → p ≡ a → unsigned_abs a ≤ 2 ^ 63 → to_z w128 (of_z w128 p) ≡ a
widened_is p a is h =
    ap (λ (x : ℤ). to_z w128 (of_z w128 x)) is ∙ to_z-of_z w128 a (fits_signed_from_abs w128 a (omega (arith, h)))

-- tests of order
pub Decides-int_le : (a b : ℤ) → Decides (int_le a b) (a ≤ℤ b)
Decides-int_le a b = (λ so. grind (arith, ints), λ le. grind (arith, ints))

pub Decides-int_lt : (a b : ℤ) → Decides (int_lt a b) (a <ℤ b)
Decides-int_lt a b = (λ so. grind (arith, ints), λ lt. grind (arith, ints))

-- this integer at one place, and 0 at every other
abbrev pub only_at : ℕ → ℤ → ℕ → ℤ
only_at w n v = if w == v then n else pos 0

pub only_at-other : (w : ℕ) (n : ℤ) (v : ℕ) → w ≢ v → only_at w n v ≡ pos 0
only_at-other w n v h = grind (arith, nat_tests)

pub only_at-same : (w : ℕ) (n : ℤ) (v : ℕ) → w ≡ v → only_at w n v ≡ n
only_at-same w n v h = grind (arith, nat_tests)
