-- Reading numbers of fixed width.
use Rattle.std.proofs.Common.{◌≡◌, ℕ, ◌^◌, ◌<◌, ◌≤◌, ℤ, Bool, true, false, cond, ltb, List, [], ◌∷◌, ◌++◌, length, take, drop}
use Rattle.std.proofs.Common.{Ok, Err, inl, inr, refl, sym, ap, subst, ◌∙◌, arith}
use Rattle.std.specs.Prelude.{FitsSigned}
use Rattle.std.specs.Int.{Width, w16, w32, w64, byte_len, from_le_bytes, to_le_bytes, cast_signed, cast_unsigned}
use Rattle.std.proofs.Math.Facts.{sfits_to_z, Fits-of_lt, Fits-of_z}
use Rattle.std.proofs.lemmas.Bool.{ltb-false, le-ltb}
use Rattle.std.proofs.lemmas.Int.{of_z-to_z, to_z-of_z}
use Rattle.std.proofs.lemmas.List.{take_at, drop_at, take-append-drop, length-append, length-take}
use Rattle.std.proofs.lemmas.Nat.{le_bytes_2, le_bytes_4, le_bytes_8, from_le_bytes-to_le_bytes_2}
use Rattle.std.proofs.lemmas.Nat.{from_le_bytes-to_le_bytes_4, from_le_bytes-to_le_bytes_8}
use Rattle.entry_codec.specs.Reading.{Read}
use Rattle.entry_codec.specs.Grammar.{IsBytes, Begins, field}
use Rattle.entry_codec.specs.Numbers.{small, short, long, integer, integer_bytes}
use Rattle.entry_codec.specs.NumberReading.{small_at, number_at, short_at, long_at, integer_at}
use Rattle.entry_codec.proofs.Bytes.{IsBytes-take, both_ok, one_failed, step_on, ok_is}
use Rattle.entry_codec.proofs.PartLaws.{Reads, Reads-field}

-- ---- one byte

small_takes : (bytes : List ℕ) (a : ℕ) (rest : List ℕ) → IsBytes bytes → small_at bytes ≡ Ok (a, rest)
    → Begins small bytes a rest
unfolding small small_at
small_takes [] a rest are e = absurd (cc)
small_takes (b ∷ bytes) a rest are e =
    let whole = ok_is {E = ℕ} (b, bytes) (a, rest) e in
    record {
      may = subst (λ (x : ℕ × List ℕ). x.0 < 2 ^ 8) whole (are 0);
      spelled = ap (λ (x : ℕ × List ℕ). x.0 ∷ x.1) whole;
    }

small_here : (bytes : List ℕ) (left : ℕ) → small_at bytes ≡ Err left → left ≡ length bytes
unfolding small_at
small_here [] left e = cc
small_here (b ∷ bytes) left e = absurd (cc)

pub Reads-small : Reads small small_at
unfolding small small_at
Reads-small =
    Reads-field (λ n. n ∷ []) (λ n. n < 2 ^ 8) small_at small_takes (λ a rest may. refl) small_here

-- ---- several bytes

-- what a width says of its bytes and numbers
record IsWide (w : Width) (limit : ℕ) : Type 0 where
  len : (n : ℕ) → length (to_le_bytes w n) ≡ byte_len w
  back : (bytes : List ℕ) → length bytes ≡ byte_len w → IsBytes bytes → to_le_bytes w (from_le_bytes w bytes) ≡ bytes
  again : (n : ℕ) → n < limit → from_le_bytes w (to_le_bytes w n) ≡ n
  below : (bytes : List ℕ) → IsBytes bytes → from_le_bytes w bytes < limit

wide16 : IsWide w16 (2 ^ 16)
wide16 = record {
  len = λ n. refl;
  back = λ bytes len are. le_bytes_2 bytes _ len are refl;
  again = λ n lt. from_le_bytes-to_le_bytes_2 n lt;
  below = λ bytes are. omega (arith, are 0, are 1);
}

wide32 : IsWide w32 (2 ^ 32)
wide32 = record {
  len = λ n. refl;
  back = λ bytes len are. le_bytes_4 bytes _ len are refl;
  again = λ n lt. from_le_bytes-to_le_bytes_4 n lt;
  below = λ bytes are. omega (arith, are 0, are 1, are 2, are 3);
}

wide64 : IsWide w64 (2 ^ 64)
wide64 = record {
  len = λ n. refl;
  back = λ bytes len are. le_bytes_8 bytes _ len are refl;
  again = λ n lt. from_le_bytes-to_le_bytes_8 n lt;
  below = λ bytes are. omega (arith, are 0, are 1, are 2, are 3, are 4, are 5, are 6, are 7);
}

-- a test that there are enough bytes
enough : {A : Type 0} (b : Bool) (n : ℕ) (x y : A) → cond b (Err n) (Ok x) ≡ Ok y → (b ≡ false) × (x ≡ y)
enough true n x y e = absurd (cc)
enough false n x y e = (refl, cc)

too_few : {A : Type 0} (b : Bool) (n m : ℕ) (x : A) → cond b (Err n) (Ok x) ≡ Err m → n ≡ m
too_few true n m x e = cc
too_few false n m x e = absurd (cc)

number_takes : (w : Width) (limit : ℕ) (wide : IsWide w limit) (bytes : List ℕ) (n : ℕ) (rest : List ℕ) → IsBytes bytes
    → number_at w bytes ≡ Ok (n, rest) → Begins (field (to_le_bytes w) (λ m. m < limit)) bytes n rest
number_takes w limit wide bytes n rest are e =
    let front : List ℕ = take (byte_len w) bytes in
    let g = enough (ltb (length bytes) (byte_len w)) (length bytes) (from_le_bytes w front, drop (byte_len w) bytes)
    (n, rest) e in
    let long : byte_len w ≤ length bytes = ltb-false _ _ g.0 in
    let are_front = IsBytes-take (byte_len w) bytes are in
    let back = wide.back front (omega (arith, length-take (byte_len w) bytes)) are_front in
    record {
      may = subst (λ (x : ℕ × List ℕ). x.0 < limit) g.1 (wide.below front are_front);
      spelled = subst (λ (x : ℕ × List ℕ). bytes ≡ to_le_bytes w x.0 ++ x.1) g.1
          (sym (take-append-drop (byte_len w) bytes) ∙ ap (λ (f : List ℕ). f ++ drop (byte_len w) bytes) (sym back));
    }

number_again : (w : Width) (limit : ℕ) (wide : IsWide w limit) (n : ℕ) (rest : List ℕ) → n < limit
    → number_at w (to_le_bytes w n ++ rest) ≡ Ok (n, rest)
number_again w limit wide n rest lt =
    let len = wide.len n in
    let long : ltb (length (to_le_bytes w n ++ rest)) (byte_len w) ≡ false =
    le-ltb _ _ (omega (arith, length-append (to_le_bytes w n) rest)) in
    rw (long, take_at (to_le_bytes w n) rest (byte_len w) len, drop_at (to_le_bytes w n) rest (byte_len w) len, wide.again n lt)
    refl

number_here : (w : Width) (bytes : List ℕ) (left : ℕ) → number_at w bytes ≡ Err left → left ≡ length bytes
number_here w bytes left e =
    sym (too_few (ltb (length bytes) (byte_len w)) (length bytes) left
    (from_le_bytes w (take (byte_len w) bytes), drop (byte_len w) bytes) e)

pub Reads-short : Reads short short_at
unfolding short short_at
Reads-short = Reads-field (to_le_bytes w16) (λ n. n < 2 ^ 16) (number_at w16) (number_takes w16 (2 ^ 16) wide16)
    (number_again w16 (2 ^ 16) wide16) (number_here w16)

pub Reads-long : Reads long long_at
unfolding long long_at
Reads-long = Reads-field (to_le_bytes w32) (λ n. n < 2 ^ 32) (number_at w32) (number_takes w32 (2 ^ 32) wide32)
    (number_again w32 (2 ^ 32) wide32) (number_here w32)

-- ---- signed numbers

-- the same bytes, as a signed number
abbrev as_signed : ℕ × List ℕ → Read ℤ
as_signed x = Ok (cast_signed w64 x.0, x.1)

integer_takes : (bytes : List ℕ) (z : ℤ) (rest : List ℕ) → IsBytes bytes → integer_at bytes ≡ Ok (z, rest)
    → Begins integer bytes z rest
unfolding integer integer_at
integer_takes bytes z rest are e =
    let s = both_ok (number_at w64 bytes) as_signed (z, rest) e in
    let n = s.value.0 in
    let whole = ok_is {E = ℕ} (cast_signed w64 n, s.value.1) (z, rest) s.then in
    let t = number_takes w64 (2 ^ 64) wide64 bytes n s.value.1 are s.first in
    record {
      may = subst (λ (x : ℤ × List ℕ). FitsSigned w64 x.0) whole (sfits_to_z (Fits-of_lt t.may));
      spelled = subst (λ (x : ℤ × List ℕ). bytes ≡ integer_bytes x.0 ++ x.1) whole
          (t.spelled ∙ ap (λ (m : ℕ). to_le_bytes w64 m ++ s.value.1) (sym (of_z-to_z w64 n t.may)));
    }

integer_again : (z : ℤ) (rest : List ℕ) → FitsSigned w64 z → integer_at (integer_bytes z ++ rest) ≡ Ok (z, rest)
unfolding integer_at
integer_again z rest fits =
    let below : cast_unsigned w64 z < 2 ^ 64 = omega (arith, Fits-of_z fits) in
    step_on (number_at w64 (integer_bytes z ++ rest)) as_signed (cast_unsigned w64 z, rest)
    (number_again w64 (2 ^ 64) wide64 (cast_unsigned w64 z) rest below)
    ∙ ap (λ (y : ℤ). Ok (y, rest)) (to_z-of_z w64 z fits)

integer_here : (bytes : List ℕ) (left : ℕ) → integer_at bytes ≡ Err left → left ≡ length bytes
unfolding integer_at
integer_here bytes left e = elim (one_failed (number_at w64 bytes) as_signed left e) [
  | inl first ↦ number_here w64 bytes left first
  | inr s ↦ absurd (let never : as_signed s.value ≡ Err left = s.then in cc)
]

pub Reads-integer : Reads integer integer_at
unfolding integer
Reads-integer = Reads-field integer_bytes (FitsSigned w64) integer_at integer_takes integer_again integer_here
