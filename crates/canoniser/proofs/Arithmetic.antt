-- Negated products, sizes and whole quotients of integers.
use Rattle.std.proofs.Common.{◌≡◌, ◌≢◌, ℕ, zero, suc, ◌+◌, ◌-◌, ◌*◌, ◌/◌, ◌%◌, ◌<◌, ◌↔◌, ℤ, pos, negsuc, ◌+ℤ◌, ◌*ℤ◌}
use Rattle.std.proofs.Common.{neg_ℤ, ◌≤ℤ◌, unsigned_abs, ⊎_elim, refl, arith, ap}
use Rattle.std.specs.Int.{◌∣◌}
use Rattle.std.proofs.Math.Nat.{mul-le-mul_left, mod-lt, div-add-mod, mul-div_cancel'}
use Rattle.std.proofs.lemmas.Bool.{cases_lt}
use Rattle.std.proofs.lemmas.Int.{ints, by_lt_z}
use borrow.Author.Differences.{up, down, neg_is}
use Rattle.lin_model.specs.Quotients.{floor_div, ceil_div}
use Rattle.lin_model.specs.Integers.{distrib_left, scale_up}

pub neg_left : (a b : ℤ) → neg_ℤ a *ℤ b ≡ neg_ℤ (a *ℤ b)
neg_left a b =
    omega (
      arith,
      ints,
      ap (λ (x : ℕ). x * up b) (neg_is a).0,
      ap (λ (x : ℕ). x * down b) (neg_is a).0,
      ap (λ (x : ℕ). x * up b) (neg_is a).1,
      ap (λ (x : ℕ). x * down b) (neg_is a).1,
    )

pub neg_right : (a b : ℤ) → a *ℤ neg_ℤ b ≡ neg_ℤ (a *ℤ b)
neg_right a b =
    omega (
      arith,
      ints,
      ap (λ (x : ℕ). up a * x) (neg_is b).0,
      ap (λ (x : ℕ). down a * x) (neg_is b).0,
      ap (λ (x : ℕ). up a * x) (neg_is b).1,
      ap (λ (x : ℕ). down a * x) (neg_is b).1,
    )

-- the size of what isn't 0
pub abs-positive : (z : ℤ) → z ≢ pos 0 → 0 < unsigned_abs z
abs-positive (pos zero) h = absurd (h refl)
abs-positive (pos (suc n)) h = omega arith
abs-positive (negsuc n) h = omega arith

-- ---- quotients

-- what is left over is below the divisor
pub floor_div-rest : (c : ℤ) (g : ℕ) → 0 < g → (r : ℕ) × (r < g) × (c ≡ (pos g *ℤ floor_div c g) +ℤ pos r)
floor_div-rest (pos a) g h = (a % g, mod-lt a h, omega (arith, ints, div-add-mod a g))
floor_div-rest (negsuc a) g h =
    let low : a % g < g = mod-lt a h in
    (g - 1 - a % g, omega arith, omega (arith, ints, div-add-mod a g))

one_quotient : (g k m r : ℕ) → r < g → g * k + r ≡ g * suc m → k ≡ suc m
one_quotient g k m r low e =
    ⊎_elim (λ less. absurd (omega (arith, mul-le-mul_left g less)))
    (λ more. ⊎_elim (λ much. absurd (omega (arith, mul-le-mul_left g much))) (λ same. omega arith) (cases_lt (suc m) k))
    (cases_lt k (suc m))

-- a number that the divisor divides is the quotient times the divisor
pub floor_div-exact : (c : ℤ) (g : ℕ) → 0 < g → g ∣ unsigned_abs c → c ≡ pos g *ℤ floor_div c g
floor_div-exact (pos a) g h d = omega (arith, ints, mul-div_cancel' g d)
floor_div-exact (negsuc a) g h d =
    let rest = floor_div-rest (negsuc a) g h in
    let k = suc a / g in
    let whole : g * k ≡ suc a = mul-div_cancel' g d in
    let same : k ≡ suc (a / g) = one_quotient g k (a / g) rest.0 rest.1 (omega (arith, ints, rest.2)) in
    omega (arith, ints, whole, ap (λ (x : ℕ). g * x) same)

-- what the quotient times the divisor is below
pub floor_div-above : (w c : ℤ) (g : ℕ) → 0 < g → (w ≤ℤ floor_div c g) ↔ ((pos g *ℤ w) ≤ℤ c)
floor_div-above w c g h =
    let q = floor_div c g in
    let rest = floor_div-rest c g h in (
      λ below. omega (arith, ints, rest.2, scale_up g w q below),
      λ below. by_lt_z q w
          (λ less. absurd
          (omega (
            arith,
            ints,
            rest.1,
            rest.2,
            distrib_left (pos g) q (pos 1),
            scale_up g (q +ℤ pos 1) w (omega (arith, ints)),
          ))) (λ le. le),
    )

pub ceil_div-below : (w c : ℤ) (g : ℕ) → 0 < g → (ceil_div c g ≤ℤ w) ↔ (c ≤ℤ (pos g *ℤ w))
ceil_div-below w c g h =
    let both = floor_div-above (neg_ℤ w) (neg_ℤ c) g h in (
      λ above. omega (arith, ints, neg_right (pos g) w, both.0 (omega (arith, ints))),
      λ above. omega (arith, ints, both.1 (omega (arith, ints, neg_right (pos g) w))),
    )
