-- Lists of bytes, and steps of reading that may fail.
use Rattle.std.proofs.Common.{◌≡◌, ℕ, ◌+◌, ◌≤◌, Bool, true, false, cond, List, ◌++◌, length}
use Rattle.std.proofs.Common.{take, Result, Ok, Err, ◌⊎◌, inl, inr, refl, ap, subst, arith}
use Rattle.std.proofs.lemmas.Bool.{cases_lt}
use Rattle.std.proofs.lemmas.List.{get_or-append-add, get_or-take, get_or_past, length-take, length-append}
use Rattle.std.proofs.Math.ListN.{get_or-append}
use Rattle.entry_codec.specs.Grammar.{IsBytes}
use Rattle.entry_codec.specs.Reading.{◌>>=◌}

-- ---- bytes

-- what stands behind some bytes
pub IsBytes-behind : (front rest bytes : List ℕ) → bytes ≡ front ++ rest → IsBytes bytes → IsBytes rest
IsBytes-behind front rest bytes e are k =
    let all : IsBytes (front ++ rest) = subst IsBytes e are in
    rw get_or-append-add at (all (length front + k))

-- what stands in front of others
pub IsBytes-front : (front rest bytes : List ℕ) → bytes ≡ front ++ rest → IsBytes bytes → IsBytes front
IsBytes-front front rest bytes e are k = elim (cases_lt k (length front)) [
  | inl lt ↦
      let all : IsBytes (front ++ rest) = subst IsBytes e are in
      rw (get_or-append front rest 0 k lt) at (all k)
  | inr le ↦ rw (get_or_past front k 0 le) (omega arith)
]

-- the first of them
pub IsBytes-take : (n : ℕ) (bytes : List ℕ) → IsBytes bytes → IsBytes (take n bytes)
IsBytes-take n bytes are k = elim (cases_lt k n) [
  | inl lt ↦ rw (get_or-take n bytes k 0 lt) (are k)
  | inr le ↦ rw (get_or_past (take n bytes) k 0 (omega (arith, length-take n bytes))) (omega arith)
]

-- what stands behind some bytes is no longer than all of them
pub length-behind : (front rest bytes : List ℕ) → bytes ≡ front ++ rest → length rest ≤ length bytes
length-behind front rest bytes e = omega (arith, ap length e, length-append front rest)

-- ---- steps that may fail

-- a step, and what came of the one behind it
pub record Stepped {A B : Type 0} (r : Result A ℕ) (f : A → Result B ℕ) (answer : Result B ℕ) : Type 0 where
  pub value : A
  pub first : r ≡ Ok value
  pub then : f value ≡ answer

-- two steps that didn't fail
pub both_ok : {A B : Type 0} (r : Result A ℕ) (f : A → Result B ℕ) (y : B) → (r >>= f) ≡ Ok y → Stepped r f (Ok y)
both_ok (Ok x) f y e = record { value = x; first = refl; then = e }
both_ok (Err n) f y e = absurd (cc)

-- of two steps that failed, the first failed, or the second behind it
pub one_failed : {A B : Type 0} (r : Result A ℕ) (f : A → Result B ℕ) (n : ℕ) → (r >>= f) ≡ Err n
    → (r ≡ Err n) ⊎ Stepped r f (Err n)
one_failed (Ok x) f n e = inr (record { value = x; first = refl; then = e })
one_failed (Err m) f n e = inl (let same : m ≡ n = cc in ap Err same)

-- the second step, where the first didn't fail
pub step_on : {A B : Type 0} (r : Result A ℕ) (f : A → Result B ℕ) (x : A) → r ≡ Ok x → (r >>= f) ≡ f x
step_on {A} {B} r f x e = ap (λ (q : Result A ℕ). q >>= f) e

-- no second step, where the first failed
pub step_off : {A B : Type 0} (r : Result A ℕ) (f : A → Result B ℕ) (n : ℕ) → r ≡ Err n → (r >>= f) ≡ Err n
step_off {A} {B} r f n e = ap (λ (q : Result A ℕ). q >>= f) e

-- one value at most was read
pub ok_is : {A : Type 0} {E : Type 0} (x y : A) → (let one : Result A E = Ok x in one) ≡ Ok y → x ≡ y
ok_is x y e = cc

-- a test that passed
pub passed : {A : Type 0} (b : Bool) (x y : A) (n : ℕ) → cond b (Ok x) (Err n) ≡ Ok y → (b ≡ true) × (x ≡ y)
passed true x y n e = (refl, cc)
passed false x y n e = absurd (cc)

-- a test that didn't
pub failed : {A : Type 0} (b : Bool) (x : A) (n m : ℕ) → cond b (Ok x) (Err n) ≡ Err m → (b ≡ false) × (n ≡ m)
failed true x n m e = absurd (cc)
failed false x n m e = (refl, cc)
