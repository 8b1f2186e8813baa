-- Numbers as sets of their bits.
use Rattle.std.proofs.Common.{◌≡◌, ◌≢◌, ◌↔◌, ℕ, ◌*◌, ◌%◌, ◌^◌, ◌<◌, not, nat_eq, ◌⊎◌, inl, inr, arith, ◌∙◌, ap}
use Rattle.std.specs.Prelude.{IsTrue, bit_and, bit_or}
use Rattle.std.specs.Int.{bit_at, w64, trailing_zeros}
use Rattle.std.proofs.lemmas.Nat.{one_shl, pow_pos, and_le_l}
use Rattle.std.proofs.lemmas.Nat.Bits.{bit_at-zero, bit_at_and, bit_at_or, bit_at-pow_same, bit_at-pow_other, and_pow}
use Rattle.std.proofs.lemmas.Nat.Bits.{bit_at-trailing_zeros, bit_at-lt}
use Rattle.std.proofs.lemmas.Bool.Decides.{eqb_tells, Decides-eqb}

-- the number with one bit has that bit alone
pub bit_at-one : (k v : ℕ) → k < 64 → (bit_at (1 * 2 ^ k % 2 ^ 64) v ≡ 1) ↔ (v ≡ k)
bit_at-one k v below = rw (one_shl k 64 below) (
  λ on. elim (eqb_tells v k) [
    | inl same ↦ same.1
    | inr other ↦ absurd (omega (arith, bit_at-pow_other k v other.1))
  ],
  λ e. rw e (bit_at-pow_same k),
)

-- a number that is not 0 has a bit
pub some_bit : (n : ℕ) → n < 2 ^ 64 → n ≢ 0 → (v : ℕ) × (bit_at n v ≡ 1)
some_bit n small some =
    let there = bit_at-trailing_zeros w64 n (omega arith) small in
    (trailing_zeros w64 n, there.1)

not_zero : (n : ℕ) → IsTrue (not (nat_eq n 0)) → n ≢ 0
not_zero n t = elim (eqb_tells n 0) [ inl same ↦ absurd (cc) | inr other ↦ other.1 ]

not_zero-back : (n : ℕ) → n ≢ 0 → IsTrue (not (nat_eq n 0))
not_zero-back n some = elim (eqb_tells n 0) [ inl same ↦ absurd (some same.1) | inr other ↦ ap not other.0 ]

-- the test of one bit
pub tests_bit : (n k : ℕ) → k < 64 → IsTrue (not (nat_eq (bit_and n (1 * 2 ^ k % 2 ^ 64)) 0)) ↔ (bit_at n k ≡ 1)
tests_bit n k below =
    let times : bit_and n (1 * 2 ^ k % 2 ^ 64) ≡ bit_at n k * 2 ^ k = rw (one_shl k 64 below) (and_pow n k) in
    let positive = pow_pos k in
    let small = bit_at-lt n k in (
      λ t. elim (eqb_tells (bit_at n k) 1) [
        | inl same ↦ same.1
        | inr other ↦ absurd (
            let some = not_zero _ t in
            let off = other.1 in
            let zero : bit_at n k ≡ 0 = omega arith in
            let none = ap (λ (x : ℕ). x * 2 ^ k) zero in
            some (omega arith)
            )
      ],
      λ on. not_zero-back _ (λ none. let one = ap (λ (x : ℕ). x * 2 ^ k) on in omega arith),
    )

-- the test whether two numbers share a bit
pub tests_shared : (a b : ℕ) → a < 2 ^ 64 → IsTrue
    (not (nat_eq (bit_and a b) 0)) ↔ ((v : ℕ) × (bit_at a v ≡ 1) × (bit_at b v ≡ 1))
tests_shared a b small = (
  λ t.
      let bit = some_bit (bit_and a b) (omega (arith, and_le_l a b)) (not_zero _ t) in
      let both = bit_at_and a b bit.0 in
      let la = bit_at-lt a bit.0 in
      let lb = bit_at-lt b bit.0 in
      (bit.0, omega arith, omega arith),
  λ shared. not_zero-back _ (λ none.
      let both = bit_at_and a b shared.0 in
      let zero = ap (λ (x : ℕ). bit_at x shared.0) none ∙ bit_at-zero shared.0 in
      let left = shared.1 in
      let right = shared.2 in
      omega arith),
)

-- the test whether a number has no bit
pub tests_none : (n : ℕ) → n < 2 ^ 64 → IsTrue (nat_eq n 0) ↔ ((v : ℕ) → bit_at n v ≡ 1 → ⊥)
tests_none n small = (
  λ t v on.
      let zero : bit_at n v ≡ 0 = ap (λ (x : ℕ). bit_at x v) ((Decides-eqb n 0).0 t) ∙ bit_at-zero v in
      omega arith,
  λ none. elim (eqb_tells n 0) [
    | inl same ↦ same.0
    | inr other ↦
        absurd (let bit = some_bit n small other.1 in none bit.0 bit.1)
  ],
)

-- the bits of either number
pub bit_at-either : (a b v : ℕ) → (bit_at (bit_or a b) v ≡ 1) ↔ ((bit_at a v ≡ 1) ⊎ (bit_at b v ≡ 1))
bit_at-either a b v =
    let either = bit_at_or a b v in
    let la = bit_at-lt a v in
    let lb = bit_at-lt b v in (
      λ on. elim (eqb_tells (bit_at a v) 1) [
        | inl same ↦ inl same.1
        | inr other ↦
            inr (let off = other.1 in omega arith)
      ],
      λ one. elim one [ inl left ↦ omega arith | inr right ↦ omega arith ],
    )
