-- Tokens and lines: read again at their own place, and those of the session's own lines.
use Rattle.std.proofs.Common.{◌≡◌, ℕ, ◌+◌, ◌-◌, ◌<◌, zero, suc, Bool, true, false, cond, not, List, [], ◌∷◌, ◌++◌}
use Rattle.std.proofs.Common.{length, drop, refl, sym, ap, subst, ◌∙◌, arith, length-drop}
use Rattle.std.specs.Prelude.{MatchBool, slice_range, bytes_eq, codes, ◌&&◌}
use Rattle.std.specs.List.{prefix_len}
use Rattle.std.proofs.lemmas.List.{drop-drop}
use Rattle.std.proofs.lemmas.Bool.{false≢true}
use Rattle.lin_model.specs.Lists.{not_nil}
use Rattle.lin_text.specs.declared.token.Token.{Token}
use Rattle.lin_text.specs.declared.token.TokenKind.{TokenKind}
use Rattle.lin_text.specs.declared.token.TokenKind.TheVariants as kinds
use Rattle.lin_text.specs.Lines.{is_feed, is_blank, is_skipped, first_line, line_from}
use Rattle.lin_text.specs.Tokens.{token_from, token_here, token_of, token_length, kind_of, nothing_at}
use Rattle.lin_text.specs.Pieces.{var, word, name, compare, plus, minus, times, line_end as line_end_piece, PlainToken}
use Rattle.lin_text.specs.Pieces.{plain_token, piece_of, name_piece, symbol_piece, is_word, sign_of, is_last}
use Rattle.lin_text.specs.Pieces.{AreTokens}
use Rattle.lin_text.specs.Facts.{first_line-bounds, line_from-here}
use Rattle.session_text.specs.Words.{token_at, second_at, text_of}

-- behind a run nothing of the run comes
prefix_len-behind : (p : ℕ → Bool) (xs : List ℕ) → prefix_len p (drop (prefix_len p xs) xs) ≡ 0
prefix_len-behind p [] = refl
prefix_len-behind p (x ∷ xs) =
    elim (p x) as (λ b. p x ≡ b → prefix_len p (drop (cond b (1 + prefix_len p xs) 0) (x ∷ xs)) ≡ 0) [
      | true ↦ λ e. ap (λ (n : ℕ). prefix_len p (drop n (x ∷ xs)))
          (let s : 1 + prefix_len p xs ≡ suc (prefix_len p xs) = omega arith in s) ∙ prefix_len-behind p xs
      | false ↦ λ e. ap (λ (b : Bool). cond b (1 + prefix_len p xs) 0) e
    ] refl

token_of-from : (k : TokenKind) (at n : ℕ) → (token_of k at n).from ≡ at
token_of-from kinds.Bad at n = refl
token_of-from _ at n = refl

token_here-from : (at : ℕ) (xs : List ℕ) → (token_here at xs).from ≡ at
unfolding token_here
token_here-from at [] = refl
token_here-from at (b ∷ bs) =
    elim (is_feed b) as (λ f. (cond f (nothing_at kinds.LineEnd at)
    (token_of (kind_of b (token_length (b ∷ bs))) at (token_length (b ∷ bs)))).from ≡ at) [
      | true ↦ refl
      | false ↦ token_of-from (kind_of b (token_length (b ∷ bs))) at (token_length (b ∷ bs))
    ]

-- where a token begins, the same token is read
token_from-again : (bytes : List ℕ) (at : ℕ) → token_from bytes (token_from bytes at).from ≡ token_from bytes at
unfolding token_from
token_from-again bytes at =
    let n : ℕ = prefix_len is_blank (drop at bytes) in
    let from : (token_here (at + n) (drop (at + n) bytes)).from
    ≡ at + n = token_here-from (at + n) (drop (at + n) bytes) in
    let none : prefix_len is_blank (drop (at + n) bytes) ≡ 0 = ap (prefix_len is_blank) (sym (drop-drop n at bytes))
    ∙ prefix_len-behind is_blank (drop at bytes) in
    let same : at + n + prefix_len is_blank (drop (at + n) bytes) ≡ at + n = omega (arith, none) in
    ap (λ (m : ℕ). token_here (m + prefix_len is_blank (drop m bytes))
    (drop (m + prefix_len is_blank (drop m bytes)) bytes)) from
    ∙ ap (λ (m : ℕ). token_here m (drop m bytes)) same

pub token_at-again : (bytes : List ℕ) (at : ℕ) → token_at bytes (token_at bytes at).from ≡ token_at bytes at
unfolding plain_token
token_at-again bytes at = ap (plain_token false bytes) (token_from-again bytes at)

-- each token of a line is the one that is read at its place
pub token-again : (bytes : List ℕ) (at : ℕ) (ts front after : List PlainToken) (u : PlainToken)
    → AreTokens false bytes at ts → ts ≡ front ++ u ∷ after → token_at bytes u.from ≡ u
token-again bytes at [] front after u are e = absurd are
token-again bytes at (t ∷ ts) [] after u are e =
    let same : u ≡ token_at bytes at = (let eq : t ≡ u = cc in sym eq ∙ are.0) in
    ap (λ (v : PlainToken). token_at bytes v.from) same ∙ token_at-again bytes at ∙ sym same
token-again bytes at (t ∷ ts) (f ∷ front) after u are e =
    let rest : ts ≡ front ++ u ∷ after = cc in
    elim (is_last t.piece) as (λ b. MatchBool b (ts ≡ []) (AreTokens false bytes t.to ts) → token_at bytes u.from ≡ u) [
      | true ↦ λ h. absurd (not_nil front u after (sym rest ∙ h))
      | false ↦ λ h. token-again bytes t.to ts front after u h rest
    ] are.1

-- a line that isn't skipped begins where it was found
first_line-counts : (begins : Bool) (at : ℕ) (bs : List ℕ) (n : ℕ) → first_line begins at bs ≡ at + n → n < length bs
    → is_skipped (drop n bs) ≡ false
unfolding first_line
first_line-counts begins at [] n e lt = absurd (omega arith)
first_line-counts begins at (b ∷ bs) n e lt =
    elim (begins && not (is_skipped (b ∷ bs))) as (λ c. begins && not (is_skipped (b ∷ bs)) ≡ c
    → cond c at (first_line (is_feed b) (at + 1) bs) ≡ at + n → is_skipped (drop n (b ∷ bs)) ≡ false) [
      | true ↦ λ c h. subst (λ (m : ℕ). is_skipped (drop m (b ∷ bs)) ≡ false) (let z : 0 ≡ n = omega arith in
          z) (counts begins (is_skipped (b ∷ bs)) c)
      | false ↦ λ c h. later (λ m. first_line-counts (is_feed b) (at + 1) bs m) n h lt
    ] refl e
  where
    counts : (f s : Bool) → (f && not s) ≡ true → s ≡ false
    counts true true e = absurd (false≢true e)
    counts true false e = refl
    counts false s e = absurd (false≢true e)

    later : ((m : ℕ) → first_line (is_feed b) (at + 1) bs ≡ at + 1 + m → m < length bs → is_skipped (drop m bs) ≡ false)
        → (m : ℕ) → first_line (is_feed b) (at + 1) bs ≡ at + m → m < length (b ∷ bs)
        → is_skipped (drop m (b ∷ bs)) ≡ false
    later go zero h less = absurd (omega (arith, h, (first_line-bounds (is_feed b) (at + 1) bs).0))
    later go (suc m) h less = go m (h ∙ (let s : at + suc m ≡ at + 1 + m = omega arith in s)) (omega arith)

-- from the line that was found the same line is found
pub line_from-again : (bytes : List ℕ) (at : ℕ) → line_from bytes at < length bytes
    → line_from bytes (line_from bytes at) ≡ line_from bytes at
line_from-again bytes at lt =
    let s : ℕ = line_from bytes at in
    let bounds = first_line-bounds true at (drop at bytes) in
    let n : ℕ = s - at in
    let is : s ≡ at + n = omega (arith, bounds.0) in
    let less : n < length (drop at bytes) = omega (arith, length-drop at bytes) in
    let counts : is_skipped (drop n (drop at bytes)) ≡ false = first_line-counts true at (drop at bytes) n is less in
    let there : drop n (drop at bytes) ≡ drop s bytes = drop-drop n at bytes ∙ ap (λ (m : ℕ). drop m bytes) (sym is) in
    line_from-here bytes (drop n (drop at bytes)) s there counts

-- a line of two tokens, the second of which is its end
pub two_tokens : (bytes : List ℕ) (at : ℕ) (w : List ℕ) (ts : List PlainToken) → AreTokens false bytes at ts
    → (token_at bytes at).piece ≡ word w → (second_at bytes at).piece ≡ line_end_piece
    → ts ≡ token_at bytes at ∷ second_at bytes at ∷ []
two_tokens bytes at w [] are first second = absurd are
two_tokens bytes at w (t ∷ ts) are first second =
    let goes_on : is_last t.piece ≡ false = ap is_last (ap (λ (u : PlainToken). u.piece) are.0 ∙ first) in
    let more : AreTokens false bytes t.to ts = subst
    (λ (b : Bool). MatchBool b (ts ≡ []) (AreTokens false bytes t.to ts)) goes_on are.1 in
    let there : AreTokens false bytes (token_at bytes at).to ts = subst
    (λ (u : PlainToken). AreTokens false bytes u.to ts) are.0 more in
    ap (λ (u : PlainToken). u ∷ ts) are.0 ∙ ap (λ (us : List PlainToken). token_at bytes at ∷ us)
    (last_token (token_at bytes at).to ts there second)
  where
    last_token : (to : ℕ) (us : List PlainToken) → AreTokens false bytes to us
        → (token_at bytes to).piece ≡ line_end_piece → us ≡ token_at bytes to ∷ []
    last_token to [] are e = absurd are
    last_token to (u ∷ us) are e =
        let over : is_last u.piece ≡ true = ap is_last (ap (λ (v : PlainToken). v.piece) are.0 ∙ e) in
        let none : us ≡ [] = subst (λ (b : Bool). MatchBool b (us ≡ []) (AreTokens false bytes u.to us)) over are.1 in
        ap (λ (v : PlainToken). v ∷ us) are.0 ∙ ap (λ (vs : List PlainToken). token_at bytes to ∷ vs) none

-- the first token of a line
pub one_token : (bytes : List ℕ) (at : ℕ) (ts : List PlainToken) → AreTokens false bytes at ts
    → (more : List PlainToken) × (ts ≡ token_at bytes at ∷ more)
one_token bytes at [] are = absurd are
one_token bytes at (t ∷ ts) are = (ts, ap (λ (u : PlainToken). u ∷ ts) are.0)

-- the first two tokens of a line that begins with a word
pub first_two : (bytes : List ℕ) (at : ℕ) (w : List ℕ) (ts : List PlainToken) → AreTokens false bytes at ts
    → (token_at bytes at).piece ≡ word w → (more : List PlainToken)
    × (ts ≡ token_at bytes at ∷ second_at bytes at ∷ more)
first_two bytes at w [] are first = absurd are
first_two bytes at w (t ∷ ts) are first =
    let goes_on : is_last t.piece ≡ false = ap is_last (ap (λ (u : PlainToken). u.piece) are.0 ∙ first) in
    let more : AreTokens false bytes t.to ts = subst
    (λ (b : Bool). MatchBool b (ts ≡ []) (AreTokens false bytes t.to ts)) goes_on are.1 in
    let there : AreTokens false bytes (token_at bytes at).to ts = subst
    (λ (u : PlainToken). AreTokens false bytes u.to ts) are.0 more in
    let rest = one_token bytes (token_at bytes at).to ts there in
    (rest.0, ap (λ (u : PlainToken). u ∷ ts) are.0 ∙ ap (λ (us : List PlainToken). token_at bytes at ∷ us) rest.1)

-- the header, token by token

name_piece-no_end : (v w : Bool) (text : List ℕ) → cond v var (cond w (word text) (name text)) ≡ line_end_piece → ⊥
name_piece-no_end true w text e = cc
name_piece-no_end false true text e = cc
name_piece-no_end false false text e = cc

symbol_piece-no_end : (p m t : Bool) (text : List ℕ)
    → cond p plus (cond m minus (cond t times (compare (sign_of text)))) ≡ line_end_piece → ⊥
symbol_piece-no_end true m t text e = cc
symbol_piece-no_end false true t text e = cc
symbol_piece-no_end false false true text e = cc
symbol_piece-no_end false false false text e = cc

piece_of-end : (k : TokenKind) (text : List ℕ) → piece_of false k text ≡ line_end_piece → k ≡ kinds.LineEnd
unfolding piece_of name_piece symbol_piece
piece_of-end kinds.Name text e = absurd (name_piece-no_end (bytes_eq text (codes "var")) (is_word false text) text e)
piece_of-end kinds.Number text e = absurd (cc)
piece_of-end kinds.Symbol text e = absurd (symbol_piece-no_end (bytes_eq text (codes "+")) (bytes_eq text (codes "-"))
    (bytes_eq text (codes "*")) text e)
piece_of-end kinds.Bad text e = absurd (cc)
piece_of-end kinds.LineEnd text e = refl

pub text-same : (bytes : List ℕ) (at : ℕ) (t : Token) → t ≡ token_from bytes at
    → slice_range bytes t.from t.to ≡ text_of bytes (token_at bytes at)
unfolding plain_token
text-same bytes at t e = ap (λ (u : Token). slice_range bytes u.from u.to) e

pub to-same : (bytes : List ℕ) (at : ℕ) (t : Token) → t ≡ token_from bytes at → t.to ≡ (token_at bytes at).to
unfolding plain_token
to-same bytes at t e = ap (λ (u : Token). u.to) e

pub end-same : (bytes : List ℕ) (at : ℕ) (t : Token) → t ≡ token_from bytes at
    → (t.kind ≡ kinds.LineEnd → (token_at bytes at).piece ≡ line_end_piece)
    × ((token_at bytes at).piece ≡ line_end_piece → t.kind ≡ kinds.LineEnd)
unfolding plain_token piece_of
end-same bytes at t e = (
  λ is. ap (λ (u : Token). piece_of false u.kind (slice_range bytes u.from u.to)) (sym e)
      ∙ ap (λ (k : TokenKind). piece_of false k (slice_range bytes t.from t.to)) is,
  λ is. ap (λ (u : Token). u.kind) e ∙ piece_of-end (token_from bytes at).kind
      (slice_range bytes (token_from bytes at).from (token_from bytes at).to) is,
)
