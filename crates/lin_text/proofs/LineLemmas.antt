-- Runs at the front of a list, its first byte, and the lines that are skipped.
use Rattle.std.proofs.Common.{◌≡◌, ℕ, ◌+◌, ◌<◌, ◌≤◌, min, Bool, true, false, cond, not, List, [], ◌∷◌, length, drop}
use Rattle.std.proofs.Common.{get_or, nat_eq, suc, add-zero, refl, sym, ap, ◌∙◌, arith, length-drop, nat_lt, ◌-◌, inl}
use Rattle.std.proofs.Common.{inr}
use Rattle.std.specs.Prelude.{◌||◌, ◌&&◌}
use Rattle.std.specs.List.{prefix_len}
use Rattle.std.proofs.lemmas.List.{at_drop_more, at_drop_all, drop-drop, get_or-drop}
use Rattle.std.proofs.lemmas.List.Sums.{prefix_len_stops, prefix_len-le-length}
use Rattle.std.proofs.lemmas.Bool.Decides.{nat_tests}
use borrow.Author.Tests.{ltb-true, ltb-false}
use Rattle.lin_text.specs.Lines.{is_feed, is_in_line, ends_or_comments, is_skipped, first_line, line_from, line_below}
use Rattle.lin_text.specs.Lines.{StartsLine}
use Rattle.lin_text.specs.Tokens.{begins_equal, token_length, kind_of, nothing_at, token_of, token_here}
use Rattle.lin_text.specs.declared.token.TokenKind.{TokenKind}
use Rattle.lin_text.specs.declared.token.TokenKind.TheVariants.{LineEnd}

-- a run goes on at a place, or ends there
pub prefix_len-step : (p : ℕ → Bool) (xs : List ℕ) (i : ℕ) → i < length xs
    → prefix_len p (drop i xs) ≡ cond (p (get_or xs i 0)) (1 + prefix_len p (drop (i + 1) xs)) 0
prefix_len-step p xs i lt = at_drop_more (prefix_len p) xs i 0 lt

pub prefix_len-end : (p : ℕ → Bool) (xs : List ℕ) (i : ℕ) → length xs ≤ i → prefix_len p (drop i xs) ≡ 0
prefix_len-end p xs i le = at_drop_all (prefix_len p) xs i le

pub ruleset runs = (prefix_len-step, prefix_len-end, prefix_len-le-length)

pub ends_or_comments-first : (xs : List ℕ) → 0 < length xs
    → ends_or_comments xs ≡ (is_feed (get_or xs 0 0) || nat_eq (get_or xs 0 0) 35)
ends_or_comments-first [] lt = absurd (omega arith)
ends_or_comments-first (x ∷ xs) lt = refl

pub ends_or_comments-none : (xs : List ℕ) → length xs ≡ 0 → ends_or_comments xs ≡ true
ends_or_comments-none [] e = refl
ends_or_comments-none (x ∷ xs) e = absurd (omega arith)

pub begins_equal-first : (xs : List ℕ) → 0 < length xs → begins_equal xs ≡ nat_eq (get_or xs 0 0) 61
begins_equal-first [] lt = absurd (omega arith)
begins_equal-first (x ∷ xs) lt = refl

pub begins_equal-none : (xs : List ℕ) → length xs ≡ 0 → begins_equal xs ≡ false
begins_equal-none [] e = refl
begins_equal-none (x ∷ xs) e = absurd (omega arith)

pub token_here-none : (at : ℕ) (xs : List ℕ) → length xs ≡ 0 → token_here at xs ≡ nothing_at LineEnd at
unfolding token_here
token_here-none at [] e = refl
token_here-none at (x ∷ xs) e = absurd (omega arith)

pub token_here-first : (at : ℕ) (xs : List ℕ) → 0 < length xs
    → token_here at xs ≡ cond (is_feed (get_or xs 0 0)) (nothing_at LineEnd at)
    (token_of (kind_of (get_or xs 0 0) (token_length (get_or xs 0 0 ∷ drop 1 xs))) at
    (token_length (get_or xs 0 0 ∷ drop 1 xs)))
unfolding token_here
token_here-first at [] lt = absurd (omega arith)
token_here-first at (x ∷ xs) lt = refl

pub ruleset firsts = (
  ends_or_comments-first,
  ends_or_comments-none,
  begins_equal-first,
  begins_equal-none,
  token_here-none,
  token_here-first,
)

pub token_here-byte : (at : ℕ) (xs rest : List ℕ) (n : ℕ) (k : TokenKind) → 0 < length xs
    → is_feed (get_or xs 0 0) ≡ false → rest ≡ drop 1 xs → n ≡ token_length (get_or xs 0 0 ∷ rest)
    → k ≡ kind_of (get_or xs 0 0) n → token_here at xs ≡ token_of k at n
token_here-byte at xs rest n k lt no_feed there len kind =
    token_here-first at xs lt
    ∙ ap (λ (b : Bool). cond b (nothing_at LineEnd at)
    (token_of (kind_of (get_or xs 0 0) (token_length (get_or xs 0 0 ∷ drop 1 xs))) at
    (token_length (get_or xs 0 0 ∷ drop 1 xs)))) no_feed
    ∙ ap (λ (m : ℕ). token_of (kind_of (get_or xs 0 0) m) at m)
    (sym (len ∙ ap (λ (r : List ℕ). token_length (get_or xs 0 0 ∷ r)) there))
    ∙ ap (λ (j : TokenKind). token_of j at n) (sym kind)

-- inside a skipped line the search goes on at the line below
pub first_line-below : (at : ℕ) (bs : List ℕ) (m : ℕ) → m ≡ min (prefix_len is_in_line bs + 1) (length bs)
    → first_line false at bs ≡ first_line true (at + m) (drop m bs)
unfolding first_line
first_line-below at [] m e = rw (let z : m ≡ 0 = omega arith in z) (sym (add-zero at))
first_line-below at (b ∷ bs) m e =
    elim (is_feed b) as (λ f. m ≡ min (cond (not f) (1 + prefix_len is_in_line bs) 0 + 1) (length (b ∷ bs))
    → first_line f (at + 1) bs ≡ first_line true (at + m) (drop m (b ∷ bs))) [
      | true ↦ λ h. rw (let one : m ≡ 1 = omega arith in one) refl
      | false ↦ λ h.
          let k : ℕ = min (prefix_len is_in_line bs + 1) (length bs) in
          rw (let more : m ≡ suc k = omega arith in
          more) (first_line-below (at + 1) bs k refl
          ∙ ap (λ (p : ℕ). first_line true p (drop k bs)) (let q : (at + 1) + k ≡ at + suc k = omega arith in q))
    ] e

pub first_line-skipped : (at : ℕ) (bs : List ℕ) → is_skipped bs ≡ true → first_line true at bs ≡ first_line false at bs
unfolding first_line
first_line-skipped at [] e = refl
first_line-skipped at (b ∷ bs) e = ap (λ (s : Bool). cond (true && not s) at (first_line (is_feed b) (at + 1) bs)) e

pub line_from-below : (bytes rest : List ℕ) (at : ℕ) (below : ℕ) → at ≤ length bytes → below ≡ line_below bytes at
    → rest ≡ drop at bytes → is_skipped rest ≡ true → line_from bytes below ≡ line_from bytes at
line_from-below bytes rest at below within is from skipped =
    let m : ℕ = min (prefix_len is_in_line (drop at bytes) + 1) (length (drop at bytes)) in
    let there : below ≡ at + m = omega (arith, length-drop at bytes) in
    rw there (ap (λ (bs : List ℕ). first_line true (at + m) bs) (sym (drop-drop m at bytes))
    ∙ sym (first_line-below at (drop at bytes) m refl)
    ∙ sym (first_line-skipped at (drop at bytes) (ap is_skipped (sym from) ∙ skipped)))

-- what isn't within a line is a line feed
not_in_line : (b : ℕ) → is_in_line b ≡ false → b ≡ 10
not_in_line b e = grind (arith, nat_tests)

-- below a line a line starts
pub line_below_starts : (bytes : List ℕ) (at : ℕ) → at ≤ length bytes → StartsLine bytes (line_below bytes at)
line_below_starts bytes at within =
    let n : ℕ = prefix_len is_in_line (drop at bytes) in
    let most : n ≤ length (drop at bytes) = prefix_len-le-length is_in_line (drop at bytes) in
    elim (nat_lt (at + n) (length bytes)) as (λ b. nat_lt (at + n) (length bytes) ≡ b
    → StartsLine bytes (line_below bytes at)) [
      | true ↦ λ e.
          let lt : at + n < length bytes = ltb-true (at + n) (length bytes) e in
          let less : n < length (drop at bytes) = omega (arith, length-drop at bytes) in
          let feed : get_or bytes (at + n) 0 ≡ 10 = sym (get_or-drop at bytes n 0)
          ∙ not_in_line (get_or (drop at bytes) n 0) (prefix_len_stops is_in_line (drop at bytes) 0 less) in
          let place : line_below bytes at - 1 ≡ at + n = omega arith in
          record { within = omega arith; begins = inr (inr (ap (λ (k : ℕ). get_or bytes k 0) place ∙ feed)) }
      | false ↦ λ e.
          let ge : length bytes ≤ at + n = ltb-false (at + n) (length bytes) e in
          record { within = omega arith; begins = inr (inl (omega arith)) }
    ] refl
