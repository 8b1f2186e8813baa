-- A line feed behind a text changes no token before it.
use Rattle.std.proofs.Common.{◌≡◌, ℕ, ◌+◌, ◌-◌, ◌≤◌, Bool, true, false, cond, List, [], ◌∷◌, ◌++◌, length, take, drop}
use Rattle.std.proofs.Common.{refl, sym, ap, subst, ◌∙◌, arith, length-drop}
use Rattle.std.specs.Prelude.{slice_range, MatchBool}
use Rattle.std.specs.List.{prefix_len}
use Rattle.std.proofs.lemmas.List.{drop-append-le, take-append-le}
use Rattle.std.proofs.lemmas.List.Sums.{prefix_len-le-length}
use Rattle.lin_model.specs.Names.{is_name_start, is_name_byte, is_digit}
use Rattle.lin_text.specs.Lines.{is_feed, is_blank, is_skipped, ends_or_comments}
use Rattle.lin_text.specs.Tokens.{begins_equal, symbol_length, token_length, kind_of, nothing_at, token_of, token_here}
use Rattle.lin_text.specs.Tokens.{token_from}
use Rattle.lin_text.specs.declared.token.Token.{Token}
use Rattle.lin_text.specs.declared.token.TokenKind.TheVariants.{LineEnd}
use Rattle.lin_text.specs.Pieces.{piece_of, PlainToken, plain_token, first_token, is_last, AreTokens}
use Rattle.lin_text.proofs.TokenPlaces.{first_token-ahead, line_end-within}

abbrev feed : List ℕ
feed = 10 ∷ []

pub prefix_len-feed : (p : ℕ → Bool) → p 10 ≡ false → (xs : List ℕ) → prefix_len p (xs ++ feed) ≡ prefix_len p xs
prefix_len-feed p none [] = ap (λ (b : Bool). cond b (1 + prefix_len p []) 0) none
prefix_len-feed p none (x ∷ xs) = ap (λ (n : ℕ). cond (p x) (1 + n) 0) (prefix_len-feed p none xs)

begins_equal-feed : (bs : List ℕ) → begins_equal (bs ++ feed) ≡ begins_equal bs
begins_equal-feed [] = refl
begins_equal-feed (b ∷ bs) = refl

symbol_length-feed : (b : ℕ) (bs : List ℕ) → symbol_length b (bs ++ feed) ≡ symbol_length b bs
symbol_length-feed b [] = refl
symbol_length-feed b (c ∷ bs) = refl

token_length-feed : (b : ℕ) (bs : List ℕ) → token_length (b ∷ (bs ++ feed)) ≡ token_length (b ∷ bs)
unfolding token_length
token_length-feed b bs =
    ap (λ (n : ℕ). cond (is_name_start b) (1 + n)
    (cond (is_digit b) (1 + prefix_len is_digit (bs ++ feed)) (symbol_length b (bs ++ feed))))
    (prefix_len-feed is_name_byte refl bs)
    ∙ (ap (λ (n : ℕ). cond (is_name_start b) (1 + prefix_len is_name_byte bs)
    (cond (is_digit b) (1 + n) (symbol_length b (bs ++ feed)))) (prefix_len-feed is_digit refl bs)
    ∙ ap (λ (n : ℕ). cond (is_name_start b) (1 + prefix_len is_name_byte bs)
    (cond (is_digit b) (1 + prefix_len is_digit bs) n)) (symbol_length-feed b bs))

token_here-feed : (at : ℕ) (xs : List ℕ) → token_here at (xs ++ feed) ≡ token_here at xs
unfolding token_here
token_here-feed at [] = refl
token_here-feed at (b ∷ bs) =
    ap (λ (n : ℕ). cond (is_feed b) (nothing_at LineEnd at) (token_of (kind_of b n) at n)) (token_length-feed b bs)

token_from-feed : (bytes : List ℕ) (at : ℕ) → at ≤ length bytes → token_from (bytes ++ feed) at ≡ token_from bytes at
unfolding token_from
token_from-feed bytes at le =
    let n : ℕ = prefix_len is_blank (drop at bytes) in
    let same : prefix_len is_blank (drop at (bytes ++ feed)) ≡ n = ap (prefix_len is_blank)
    (drop-append-le at bytes feed le) ∙ prefix_len-feed is_blank refl (drop at bytes) in
    let within : at + n ≤ length bytes =
    omega (arith, prefix_len-le-length is_blank (drop at bytes), length-drop at bytes) in
    ap (λ (m : ℕ). token_here (at + m) (drop (at + m) (bytes ++ feed))) same
    ∙ (ap (token_here (at + n)) (drop-append-le (at + n) bytes feed within)
    ∙ token_here-feed (at + n) (drop (at + n) bytes))

slice-feed : (bytes : List ℕ) (from to : ℕ) → from ≤ to → to ≤ length bytes
    → slice_range (bytes ++ feed) from to ≡ slice_range bytes from to
slice-feed bytes from to order within =
    ap (λ (xs : List ℕ). take (to - from) xs) (drop-append-le from bytes feed (omega arith))
    ∙ take-append-le (to - from) (drop from bytes) feed (omega (arith, length-drop from bytes))

-- the first token lies within the text
pub first_token-within : (p : Bool) (bytes : List ℕ) (at : ℕ) → at ≤ length bytes
    → ((first_token p bytes at).from ≤ (first_token p bytes at).to) × ((first_token p bytes at).to ≤ length bytes)
first_token-within p bytes at le =
    let ahead = first_token-ahead p bytes at in
    (ahead.order, omega (arith, ahead.within, line_end-within bytes at le))

first_token-feed : (p : Bool) (bytes : List ℕ) (at : ℕ) → at ≤ length bytes
    → first_token p (bytes ++ feed) at ≡ first_token p bytes at
unfolding plain_token
first_token-feed p bytes at le =
    let t : Token = token_from bytes at in
    let within = first_token-within p bytes at le in
    ap (plain_token p (bytes ++ feed)) (token_from-feed bytes at le)
    ∙ ap (λ (text : List ℕ). record { from = t.from; to = t.to; piece = piece_of p t.kind text })
    (slice-feed bytes t.from t.to within.0 within.1)

pub AreTokens-feed : (p : Bool) (bytes : List ℕ) (at : ℕ) (ts : List PlainToken) → at ≤ length bytes
    → AreTokens p (bytes ++ feed) at ts → AreTokens p bytes at ts
AreTokens-feed p bytes at [] le are = are
AreTokens-feed p bytes at (t ∷ ts) le are =
    let is : t ≡ first_token p bytes at = are.0 ∙ first_token-feed p bytes at le in
    let within : t.to ≤ length bytes =
    subst (λ (u : PlainToken). u.to ≤ length bytes) (sym is) (first_token-within p bytes at le).1 in (
      is,
      elim (is_last t.piece) as (λ b. MatchBool b (ts ≡ []) (AreTokens p (bytes ++ feed) t.to ts)
          → MatchBool b (ts ≡ []) (AreTokens p bytes t.to ts)) [
            | true ↦ λ h. h
            | false ↦ λ h. AreTokens-feed p bytes t.to ts within h
          ] are.1,
    )

-- nor is a line skipped for it
ends-feed : (xs : List ℕ) → ends_or_comments (xs ++ feed) ≡ ends_or_comments xs
ends-feed [] = refl
ends-feed (b ∷ bs) = refl

pub is_skipped-feed : (xs : List ℕ) → is_skipped (xs ++ feed) ≡ is_skipped xs
unfolding is_skipped
is_skipped-feed xs =
    ap (λ (n : ℕ). ends_or_comments (drop n (xs ++ feed))) (prefix_len-feed is_blank refl xs)
    ∙ (ap ends_or_comments (drop-append-le (prefix_len is_blank xs) xs feed (prefix_len-le-length is_blank xs))
    ∙ ends-feed (drop (prefix_len is_blank xs) xs))
