-- Sets of places.
use Rattle.std.proofs.Common.{◌≡◌, ◌≢◌, ℕ, zero, suc, ◌+◌, ◌/◌, ◌%◌, ◌^◌, ◌<◌, ◌≤◌, List, [], ◌∷◌, ◌++◌, length, get_or, refl, sym, ap, ◌∙◌, arith}
use Rattle.std.proofs.Common.{◌↔◌, inl, inr, Bool, true, false, nat_eq}
use Rattle.std.specs.Prelude.{IsTrue, bit_and}
use Rattle.std.proofs.Math.ListN.{set}
use Rattle.std.specs.Int.{bit_at}
use Rattle.std.specs.Int.RustNames.{bit_xor}
use Rattle.std.proofs.lemmas.List.{append-nil, length_push}
use Rattle.std.proofs.lemmas.List.{get_or-set_same, get_or-set_other}
use Rattle.std.proofs.Common.{◌-◌, w64}
use Rattle.std.proofs.lemmas.Nat.Bits.{bit_at-zero, bit_at_not, bit_at-lt, bit_at_xor, bit_at-pow_same, bit_at-pow_other, shr_and_one}
use Rattle.std.proofs.lemmas.Bool.Decides.{eqb_tells, Decides-eqb}
use Rattle.sat_trie.specs.declared.left.Left.{Left}
use Rattle.sat_trie.specs.Left.{has_place, place_if, places_in, IsWithoutPlace}

-- ---- the bits of the words

-- words of ones have each place
pub has_place-ones : (words : List ℕ) (place : ℕ) → get_or words (place / 64) 0 ≡ 2 ^ 64 - 1 → has_place words place ≡ 1
unfolding has_place
has_place-ones words place ones =
    ap (λ (word : ℕ). bit_at word (place % 64)) ones
    ∙ omega (arith, bit_at_not w64 0 (place % 64) (omega arith) (omega arith), bit_at-zero (place % 64))

-- a place is in the set or it isn't
pub has_place-lt : (words : List ℕ) (place : ℕ) → has_place words place < 2
unfolding has_place
has_place-lt words place = bit_at-lt (get_or words (place / 64) 0) (place % 64)

-- the test of a place
pub tests_place : (words : List ℕ) (place word : ℕ) → word ≡ place / 64
    → IsTrue (nat_eq (bit_and (get_or words word 0 / 2 ^ (place % 64)) 1) 1) ↔ (has_place words place ≡ 1)
unfolding has_place
tests_place words place word is =
    let bit = bit_and (get_or words word 0 / 2 ^ (place % 64)) 1 in
    let same : bit ≡ bit_at (get_or words (place / 64) 0) (place % 64) =
    rw is (shr_and_one (get_or words (place / 64) 0) (place % 64)) in
    (λ t. sym same ∙ (Decides-eqb bit 1).0 t, λ on. (Decides-eqb bit 1).1 (same ∙ on))

-- where it fails, the place isn't in the set
pub test_fails : (words : List ℕ) (place : ℕ) (test : Bool) → (has_place words place ≡ 1 → IsTrue test) → test ≡ false
    → has_place words place ≡ 0
test_fails words place test tells fails =
    elim (eqb_tells (has_place words place) 1) [
      | inl on ↦ let so : test ≡ true = tells on.1 in absurd (cc)
      | inr off ↦ omega (arith, off.1, has_place-lt words place)
    ]

-- what a changed word leaves of other places, where the new word has the other bits of the old one
has_place-apart : (words : List ℕ) (place word : ℕ) → place / 64 < length words
    → ((i : ℕ) → i ≢ place % 64 → bit_at word i ≡ bit_at (get_or words (place / 64) 0) i) → (other : ℕ)
    → ¬ (other ≡ place) → has_place (set words (place / 64) word) other ≡ has_place words other
unfolding has_place
has_place-apart words place word within same other differs =
    let i = other % 64 in
    elim (eqb_tells (other / 64) (place / 64)) [
      | inl alike ↦
          let rest : i ≢ place % 64 = λ last. differs (omega (arith, alike.1, last)) in
          let new : get_or (set words (place / 64) word) (other / 64) 0 ≡ word =
          rw alike.1 (get_or-set_same words (place / 64) word 0 within) in
          ap (λ (n : ℕ). bit_at n i) new
          ∙ (same i rest ∙ ap (λ (k : ℕ). bit_at (get_or words k 0) i) (sym alike.1))
      | inr apart ↦
          ap (λ (n : ℕ). bit_at n i) (get_or-set_other words (place / 64) (other / 64) word 0 apart.1)
    ]

-- the place itself, where the word is set
has_place-there : (words : List ℕ) (place word : ℕ) → place / 64 < length words
    → has_place (set words (place / 64) word) place ≡ bit_at word (place % 64)
unfolding has_place
has_place-there words place word within =
    ap (λ (n : ℕ). bit_at n (place % 64)) (get_or-set_same words (place / 64) word 0 within)

-- one place less, as it is made
pub without_place : (old : Left) (place word bit count : ℕ) → length old.words ≡ 6 → place < 384 → word ≡ place / 64
    → bit ≡ 2 ^ (place % 64) → has_place old.words place ≡ 1 → count + 1 ≡ old.count → IsWithoutPlace old place (record {
      words = set old.words word (bit_xor (get_or old.words word 0) bit);
      count = count;
      needs = old.needs;
    })
unfolding has_place
without_place old place word bit count six lt is_word is_bit has counted =
    let within : place / 64 < length old.words = omega (arith, six, lt) in
    let was : ℕ = get_or old.words (place / 64) 0 in
    let own : ℕ = 2 ^ (place % 64) in
    record {
      less = rw is_word (rw is_bit (has_place-there old.words place (bit_xor was own) within
          ∙ omega (arith, bit_at_xor was own (place % 64), bit_at-pow_same (place % 64), has)));
      others = rw is_word (rw is_bit (has_place-apart old.words place (bit_xor was own) within
          (λ i apart. omega (arith, bit_at_xor was own i, bit_at-pow_other (place % 64) i apart, bit_at-lt was i))));
      count = counted;
      needs = refl;
    }

-- ---- the places that are in the set

-- a place is among those that are in the set
pub places_in-more : (words : List ℕ) (n : ℕ) → has_place words n ≡ 1
    → places_in words (n + 1) ≡ places_in words n ++ n ∷ []
unfolding places_in place_if
places_in-more words n is =
    let next : n + 1 ≡ suc n = omega arith in
    rw next (ap (λ (k : ℕ). places_in words n ++ place_if k n) is)

-- or isn't
pub places_in-same : (words : List ℕ) (n : ℕ) → has_place words n ≡ 0 → places_in words (n + 1) ≡ places_in words n
unfolding places_in place_if
places_in-same words n is =
    let next : n + 1 ≡ suc n = omega arith in
    rw next (ap (λ (k : ℕ). places_in words n ++ place_if k n) is ∙ append-nil (places_in words n))

-- where two sets have the same places below one
pub places_in-alike : (a b : List ℕ) (n : ℕ) → ((place : ℕ) → place < n → has_place a place ≡ has_place b place)
    → places_in a n ≡ places_in b n
unfolding places_in
places_in-alike a b zero same = refl
places_in-alike a b (suc n) same =
    ap (λ (places : List ℕ). places ++ place_if (has_place a n) n)
    (places_in-alike a b n (λ place lt. same place (omega (arith, lt))))
    ∙ ap (λ (k : ℕ). places_in b n ++ place_if k n) (same n (omega arith))

-- none is below 0
pub places_in-zero : (words : List ℕ) → places_in words 0 ≡ []
unfolding places_in
places_in-zero words = refl

-- how many they are
pub count_more : (words : List ℕ) (n : ℕ)
    → length (places_in words (n + 1)) ≡ length (places_in words n) + has_place words n
count_more words n = elim (eqb_tells (has_place words n) 1) [
  | inl on ↦
      let e = ap (λ (places : List ℕ). length places) (places_in-more words n on.1) in
      omega (arith, e, on.1, length_push (places_in words n) n)
  | inr off ↦
      let none : has_place words n ≡ 0 = omega (arith, off.1, has_place-lt words n) in
      omega (arith, none, ap (λ (places : List ℕ). length places) (places_in-same words n none))
]

-- no fewer below a later place
pub count_rises : (words : List ℕ) (m n : ℕ) → length (places_in words m) ≤ length (places_in words (m + n))
count_rises words m zero =
    let e : m + 0 ≡ m = omega arith in
    omega (arith, ap (λ (k : ℕ). length (places_in words k)) e)
count_rises words m (suc n) =
    let e : m + suc n ≡ m + n + 1 = omega arith in
    omega (arith, count_rises words m n, count_more words (m + n), ap (λ (k : ℕ). length (places_in words k)) e)

-- at most as many as there are below
pub count_few : (words : List ℕ) (n : ℕ) → length (places_in words n) ≤ n
count_few words zero = omega (arith, ap (λ (places : List ℕ). length places) (places_in-zero words))
count_few words (suc n) =
    let e : suc n ≡ n + 1 = omega arith in
    omega (arith, ap (λ (k : ℕ). length (places_in words k)) e, count_few words n, count_more words n, has_place-lt words n)

-- where a place is in the set there are some
pub count_some : (words : List ℕ) (place n : ℕ) → place < n → has_place words place ≡ 1 → 0 < length (places_in words n)
count_some words place zero lt on = absurd (omega (arith, lt))
count_some words place (suc n) lt on =
    let e : suc n ≡ n + 1 = omega arith in
    let next = ap (λ (k : ℕ). length (places_in words k)) e in
    elim (eqb_tells place n) [
      | inl last ↦ omega (arith, next, count_more words n, on, ap (λ (k : ℕ). has_place words k) last.1)
      | inr before ↦ omega (arith, next, count_more words n, count_some words place n (omega (arith, lt, before.1)) on)
    ]

-- one fewer without a place
pub count_less : (old new : List ℕ) (place n : ℕ) → place < n → has_place old place ≡ 1 → has_place new place ≡ 0
    → ((other : ℕ) → ¬ (other ≡ place) → has_place new other ≡ has_place old other)
    → length (places_in new n) + 1 ≡ length (places_in old n)
count_less old new place zero lt on off others = absurd (omega (arith, lt))
count_less old new place (suc n) lt on off others =
    let e : suc n ≡ n + 1 = omega arith in
    let next_old = ap (λ (k : ℕ). length (places_in old k)) e in
    let next_new = ap (λ (k : ℕ). length (places_in new k)) e in
    elim (eqb_tells place n) [
      | inl last ↦
          let same = ap (λ (places : List ℕ). length places)
          (places_in-alike new old n (λ q q_lt. others q (λ is. absurd (omega (arith, is, last.1, q_lt))))) in
          omega (
            arith,
            next_old,
            next_new,
            count_more old n,
            count_more new n,
            same,
            on,
            off,
            ap (λ (k : ℕ). has_place old k) last.1,
            ap (λ (k : ℕ). has_place new k) last.1,
          )
      | inr before ↦ omega (
        arith,
        next_old,
        next_new,
        count_more old n,
        count_more new n,
        count_less old new place n (omega (arith, lt, before.1)) on off others,
        others n (λ is. before.1 (sym is)),
      )
    ]

-- no more than another set has that has each of them
pub count_within : (a b : List ℕ) (n : ℕ) → ((place : ℕ) → has_place a place ≡ 1 → has_place b place ≡ 1)
    → length (places_in a n) ≤ length (places_in b n)
count_within a b zero within =
    omega (
      arith,
      ap (λ (places : List ℕ). length places) (places_in-zero a),
      ap (λ (places : List ℕ). length places) (places_in-zero b),
    )
count_within a b (suc n) within =
    let e : suc n ≡ n + 1 = omega arith in
    let next_a = ap (λ (k : ℕ). length (places_in a k)) e in
    let next_b = ap (λ (k : ℕ). length (places_in b k)) e in
    elim (eqb_tells (has_place a n) 1) [
      | inl on ↦ omega (
        arith,
        next_a,
        next_b,
        count_more a n,
        count_more b n,
        count_within a b n within,
        on.1,
        within n on.1,
      )
      | inr off ↦ omega (
        arith,
        next_a,
        next_b,
        count_more a n,
        count_more b n,
        count_within a b n within,
        off.1,
        has_place-lt a n,
      )
    ]
