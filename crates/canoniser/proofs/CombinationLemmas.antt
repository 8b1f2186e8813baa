-- Numbers have a common divisor that is a sum of multiples of them.
use Rattle.std.proofs.Common.{◌≡◌, ◌≢◌, ℕ, zero, suc, ◌+◌, ◌*◌, ◌/◌, ◌%◌, ◌<◌, ◌≤◌, List, [], ◌∷◌, ℤ, pos, negsuc, ◌+ℤ◌}
use Rattle.std.proofs.Common.{◌-ℤ◌, ◌*ℤ◌, neg_ℤ, unsigned_abs, inl, inr, refl, arith, ap, sym, subst, ◌∙◌}
use Rattle.std.specs.Prelude.{Contains, AllPairs, if◌then◌else◌, ◌==◌}
use Rattle.std.specs.Int.{◌∣◌}
use Rattle.std.proofs.Math.Nat.{dvd-mod_iff, mod-lt, div-add-mod}
use Rattle.std.proofs.Math.IntN.{*ℤ_comm, pos-*ℤ-pos, *ℤ-one, *ℤ-zero}
use Rattle.std.proofs.lemmas.Nat.Gcd.{dvd_refl, dvd-zero, dvd_trans}
use Rattle.std.proofs.lemmas.Int.{ints}
use Rattle.std.proofs.lemmas.Bool.Decides.{nat_tests}
use Rattle.lin_model.specs.Lists.{Contains-first, Contains-later, Contains-cases}
use Rattle.lin_model.specs.Integers.{times_assoc, distrib_left, distrib_right}
use Rattle.canoniser.proofs.Arithmetic.{neg_left, neg_right}
use Rattle.canoniser.proofs.SideLemmas.{distinct-head, distinct-tail}

-- ---- two numbers

-- a common divisor that is a sum of multiples of the two
record Bezout (a b : ℕ) : Type 0 where
  pub divisor : ℕ
  pub left : divisor ∣ a
  pub right : divisor ∣ b
  pub p : ℤ
  pub q : ℤ
  pub sum : (pos a *ℤ p) +ℤ (pos b *ℤ q) ≡ pos divisor

-- one step of Euclid's walk
euclid_sum : (a b k r : ℕ) (p q d : ℤ) → b * k + r ≡ a → (pos b *ℤ p) +ℤ (pos r *ℤ q) ≡ d
    → (pos a *ℤ q) +ℤ (pos b *ℤ (p -ℤ (pos k *ℤ q))) ≡ d
euclid_sum a b k r p q d whole sum =
    let parts : pos a ≡ (pos b *ℤ pos k) +ℤ pos r = omega (arith, ints, pos-*ℤ-pos b k, whole) in
    let first = ap (λ (x : ℤ). x *ℤ q) parts ∙ distrib_right (pos b *ℤ pos k) (pos r) q in
    let second = distrib_left (pos b) p (neg_ℤ (pos k *ℤ q)) in
    omega (arith, ints, first, times_assoc (pos b) (pos k) q, second, neg_right (pos b) (pos k *ℤ q), sum)

-- Euclid's walk, of at most so many steps
bezout : (steps a b : ℕ) → b ≤ steps → Bezout a b
bezout steps a zero few = record {
  divisor = a;
  left = dvd_refl a;
  right = dvd-zero a;
  p = pos 1;
  q = pos 0;
  sum = omega (arith, ints, *ℤ-one (pos a), *ℤ-zero (pos 0));
}
bezout zero a (suc b) few = absurd (omega arith)
bezout (suc steps) a (suc b) few =
    let low : a % suc b < suc b = mod-lt a (omega arith) in
    let next = bezout steps (suc b) (a % suc b) (omega arith) in
    let k = a / suc b in
    let whole : suc b * k + a % suc b ≡ a = div-add-mod a (suc b) in record {
      divisor = next.divisor;
      left = (dvd-mod_iff next.divisor next.left).0 next.right;
      right = next.left;
      p = next.q;
      q = next.p -ℤ (pos k *ℤ next.q);
      sum = euclid_sum a (suc b) k (a % suc b) next.p next.q (pos next.divisor) whole next.sum;
    }

-- ---- a list of factors

-- the sum of the factors, each times a number
abbrev pub total : (ℕ → ℤ) → (ℕ → ℤ) → List ℕ → ℤ
total f x [] = pos 0
total f x (v ∷ vs) = (f v *ℤ x v) +ℤ total f x vs

pub total-same : (f x y : ℕ → ℤ) (vs : List ℕ) → ((v : ℕ) → Contains vs v → x v ≡ y v) → total f x vs ≡ total f y vs
total-same f x y [] same = refl
total-same f x y (v ∷ vs) same =
    omega (
      arith,
      ints,
      ap (λ (n : ℤ). f v *ℤ n) (same v (Contains-first v vs)),
      total-same f x y vs (λ w has. same w (Contains-later v vs w has)),
    )

swap_times : (a b c : ℤ) → a *ℤ (b *ℤ c) ≡ b *ℤ (a *ℤ c)
swap_times a b c = sym (times_assoc a b c) ∙ ap (λ (n : ℤ). n *ℤ c) (*ℤ_comm a b) ∙ times_assoc b a c

pub total-scaled : (f x : ℕ → ℤ) (q : ℤ) (vs : List ℕ) → total f (λ v. q *ℤ x v) vs ≡ q *ℤ total f x vs
total-scaled f x q [] = sym (*ℤ-zero q)
total-scaled f x q (v ∷ vs) =
    omega (arith, ints, swap_times (f v) q (x v), total-scaled f x q vs, distrib_left q (f v *ℤ x v) (total f x vs))

-- a common divisor that is a sum of multiples
pub record Combination (f : ℕ → ℤ) (vs : List ℕ) : Type 0 where
  pub divisor : ℕ
  pub divides : (v : ℕ) → Contains vs v → divisor ∣ unsigned_abs (f v)
  pub at : ℕ → ℤ
  pub sum : total f at vs ≡ pos divisor

-- the sign of z given to p
abbrev signed : ℤ → ℤ → ℤ
signed (pos n) p = p
signed (negsuc n) p = neg_ℤ p

signed-times : (z p : ℤ) → z *ℤ signed z p ≡ pos (unsigned_abs z) *ℤ p
signed-times (pos n) p = refl
signed-times (negsuc n) p =
    omega (arith, ints, neg_right (negsuc n) p, neg_left (pos (suc n)) p)

chosen-same : (w v : ℕ) (a b : ℤ) → w ≡ v → (if w == v then a else b) ≡ a
chosen-same w v a b h = grind (arith, nat_tests)

chosen-other : (w v : ℕ) (a b : ℤ) → w ≢ v → (if w == v then a else b) ≡ b
chosen-other w v a b h = grind (arith, nat_tests)

-- one factor more
longer : (f : ℕ → ℤ) (v : ℕ) (vs : List ℕ) → AllPairs ◌≢◌ (v ∷ vs) → (rest : Combination f vs)
    → Bezout (unsigned_abs (f v)) rest.divisor → Combination f (v ∷ vs)
longer f v vs distinct rest two =
    let at : ℕ → ℤ = λ w. if w == v then signed (f v) two.p else two.q *ℤ rest.at w in
    let first =
    ap (λ (n : ℤ). f v *ℤ n) (chosen-same v v (signed (f v) two.p) (two.q *ℤ rest.at v) refl)
    ∙ signed-times (f v) two.p in
    let others = total-same f at (λ w. two.q *ℤ rest.at w) vs
    (λ w has. chosen-other w v (signed (f v) two.p) (two.q *ℤ rest.at w)
    (λ e. distinct-head v vs distinct (subst (Contains vs) e has))) in
    let second =
    others ∙ total-scaled f rest.at two.q vs ∙ ap (λ (n : ℤ). two.q *ℤ n) rest.sum
    ∙ *ℤ_comm two.q (pos rest.divisor) in record {
      divisor = two.divisor;
      divides = λ w has. elim (Contains-cases v vs w has) [
        | inl same ↦
            subst (λ u. two.divisor ∣ unsigned_abs (f u)) same two.left
        | inr behind ↦
            dvd_trans two.divisor two.right (rest.divides w behind)
      ];
      at = at;
      sum = omega (arith, ints, first, second, two.sum);
    }

pub combination : (f : ℕ → ℤ) (vs : List ℕ) → AllPairs ◌≢◌ vs → Combination f vs
combination f [] distinct = record {
  divisor = 0;
  divides = λ v has. absurd (omega (arith, has.1));
  at =
      λ v. pos 0;
  sum = refl;
}
combination f (v ∷ vs) distinct =
    let rest = combination f vs (distinct-tail v vs distinct) in
    longer f v vs distinct rest (bezout rest.divisor (unsigned_abs (f v)) rest.divisor (omega arith))
