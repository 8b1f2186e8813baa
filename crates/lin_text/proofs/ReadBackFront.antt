-- The first token of a text, wherever the text stands.
use Rattle.std.proofs.Common.{◌≡◌, ℕ, ◌+◌, ◌-◌, Bool, true, false, cond, List, [], ◌∷◌, take, drop, refl, sym, ap}
use Rattle.std.proofs.Common.{subst, ◌∙◌, arith}
use Rattle.std.specs.Prelude.{◌||◌, ◌==◌}
use Rattle.std.specs.List.{prefix_len}
use Rattle.std.proofs.lemmas.List.{drop-drop}
use Rattle.std.proofs.lemmas.Bool.{eqb-true}
use Rattle.lin_text.specs.Lines.{is_feed, is_blank, is_skipped, ends_or_comments}
use Rattle.lin_text.specs.Tokens.{token_from, token_here, token_of, token_length, kind_of, nothing_at}
use Rattle.lin_text.specs.declared.token.Token.{Token}
use Rattle.lin_text.specs.declared.token.TokenKind.{TokenKind}
use Rattle.lin_text.specs.declared.token.TokenKind.TheVariants.{Bad, LineEnd}
use Rattle.lin_text.specs.Pieces.{Piece, word, piece_of, plain_token, first_token}
use Rattle.lin_text.specs.LineLaws.{moved_by, TokensMoveWithTheirText}

-- what stands behind the blanks at the front
abbrev pub behind_blanks : List ℕ → List ℕ
behind_blanks bytes = drop (prefix_len is_blank bytes) bytes

-- the first token of a text, by places from behind the blanks
abbrev pub front_of : List ℕ → Token
front_of bytes = token_here 0 (behind_blanks bytes)

-- what it means
abbrev pub front_piece : Bool → List ℕ → Piece
front_piece p bytes = piece_of p (front_of bytes).kind (take (front_of bytes).to (behind_blanks bytes))

-- a token stands where its text does
abbrev from_place : ℕ → Token → Token
from_place at t = record { kind = t.kind; from = at; to = at + t.to }

token_of-moved : (k : TokenKind) (at n : ℕ) → token_of k at n ≡ from_place at (token_of k 0 n)
token_of-moved Bad at n =
    ap (λ (to : ℕ). record { kind = Bad; from = at; to = to }) (let e : at ≡ at + 0 = omega arith in e)
token_of-moved _ at n =
    ap (λ (m : ℕ). record { kind = _; from = at; to = at + m }) (let e : n ≡ 0 + n = omega arith in e)

token_here-moved : (at : ℕ) (xs : List ℕ) → token_here at xs ≡ from_place at (token_here 0 xs)
unfolding token_here
token_here-moved at [] =
    ap (λ (to : ℕ). record { kind = LineEnd; from = at; to = to }) (let e : at ≡ at + 0 = omega arith in e)
token_here-moved at (b ∷ bs) = by_feed (is_feed b)
  where
    by_feed : (f : Bool) → cond f (nothing_at LineEnd at)
        (token_of (kind_of b (token_length (b ∷ bs))) at (token_length (b ∷ bs)))
        ≡ from_place at (cond f (nothing_at LineEnd 0)
        (token_of (kind_of b (token_length (b ∷ bs))) 0 (token_length (b ∷ bs))))
    by_feed true =
        ap (λ (to : ℕ). record { kind = LineEnd; from = at; to = to }) (let e : at ≡ at + 0 = omega arith in e)
    by_feed false = token_of-moved (kind_of b (token_length (b ∷ bs))) at (token_length (b ∷ bs))

-- the first token from a place on, by the text that stands there
pub first_token-front : (p : Bool) (bytes : List ℕ) (at : ℕ) → first_token p bytes at ≡ record {
  from = at + prefix_len is_blank (drop at bytes);
  to = (at + prefix_len is_blank (drop at bytes)) + (front_of (drop at bytes)).to;
  piece = front_piece p (drop at bytes);
}
unfolding token_from plain_token
first_token-front p bytes at =
    let n : ℕ = prefix_len is_blank (drop at bytes) in
    let t : Token = front_of (drop at bytes) in
    let there : drop (at + n) bytes ≡ behind_blanks (drop at bytes) = sym (drop-drop n at bytes) in
    let cut : ((at + n) + t.to) - (at + n) ≡ t.to = omega arith in
    ap (plain_token p bytes) (token_here-moved (at + n) (drop (at + n) bytes)
    ∙ ap (λ (xs : List ℕ). from_place (at + n) (token_here 0 xs)) there)
    ∙ ap (λ (text : List ℕ). record { from = at + n; to = (at + n) + t.to; piece = piece_of p t.kind text })
    (ap (λ (m : ℕ). take m (drop (at + n) bytes)) cut ∙ ap (λ (xs : List ℕ). take t.to xs) there)

-- so it is the first token of that text, moved by the place
pub first_token-moved : TokensMoveWithTheirText
first_token-moved p bytes at =
    let rest : List ℕ = drop at bytes in
    let n : ℕ = prefix_len is_blank rest in
    let t : Token = front_of rest in
    let from : at + n ≡ at + (0 + n) = omega arith in
    let to : (at + n) + t.to ≡ at + ((0 + n) + t.to) = omega arith in
    first_token-front p bytes at
    ∙ ap (λ (m : ℕ). record { from = m; to = (at + n) + t.to; piece = front_piece p rest }) from
    ∙ ap (λ (m : ℕ). record { from = at + (0 + n); to = m; piece = front_piece p rest }) to
    ∙ ap (moved_by at) (sym (first_token-front p rest 0))

-- a line that begins with a word isn't skipped

counts_here : (p : Bool) (ys text w : List ℕ) → piece_of p (token_here 0 ys).kind text ≡ word w
    → ends_or_comments ys ≡ false
unfolding token_here piece_of token_length
counts_here p [] text w e = absurd (cc)
counts_here p (b ∷ bs) text w e = by_feed (is_feed b) e
  where
    no_mark : piece_of p (token_of (kind_of b (token_length (b ∷ bs))) 0 (token_length (b ∷ bs))).kind text ≡ word w
        → (m : Bool) → (b == 35) ≡ m → m ≡ false
    no_mark h true is = absurd (let no = subst
        (λ (c : ℕ). piece_of p (token_of (kind_of c (token_length (c ∷ bs))) 0 (token_length (c ∷ bs))).kind text
        ≡ word w) (eqb-true b 35 is) h in cc)
    no_mark h false is = refl

    by_feed : (f : Bool) → piece_of p (cond f (nothing_at LineEnd 0)
        (token_of (kind_of b (token_length (b ∷ bs))) 0 (token_length (b ∷ bs)))).kind text ≡ word w
        → (f || b == 35) ≡ false
    by_feed true h = absurd (cc)
    by_feed false h = no_mark h (b == 35) refl

pub counts-word : (p : Bool) (xs w : List ℕ) → front_piece p xs ≡ word w → is_skipped xs ≡ false
unfolding is_skipped
counts-word p xs w e = counts_here p (behind_blanks xs) (take (front_of xs).to (behind_blanks xs)) w e
