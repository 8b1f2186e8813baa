-- A text token by token: what stands at its front, and how it is read behind that.
use Rattle.std.proofs.Common.{◌≡◌, ℕ, ◌+◌, ◌-◌, ◌<◌, Bool, false, cond, List, [], ◌∷◌, ◌++◌, length, take, drop, refl}
use Rattle.std.proofs.Common.{sym, ap, subst, ◌∙◌, arith, All, IsTrue, length-append}
use Rattle.std.specs.Prelude.{◌||◌, ◌==◌, slice_range, MatchBool}
use Rattle.std.specs.List.{prefix_len}
use Rattle.std.proofs.Math.Seq.{take-append_seam, drop-append-add}
use Rattle.std.proofs.lemmas.List.Elements.{All-head, All-tail}
use Rattle.lin_model.specs.Lists.{drop-behind}
use Rattle.lin_text.specs.Lines.{is_feed, is_in_line, is_blank, is_skipped, ends_or_comments}
use Rattle.lin_text.specs.Tokens.{token_from, token_here, token_of, token_length, kind_of}
use Rattle.lin_text.specs.declared.token.TokenKind.{TokenKind}
use Rattle.lin_text.specs.declared.token.TokenKind.TheVariants.{LineEnd}
use Rattle.lin_text.specs.Pieces.{Piece, line_end, piece_of, PlainToken, plain_token, first_token, is_last, AreTokens}
use Rattle.lin_text.specs.Pieces.{pieces}

-- the line has these tokens from the place on
pub record HasPieces (p : Bool) (bytes : List ℕ) (at : ℕ) (ps : List Piece) : Type 0 where
  pub tokens : List PlainToken
  pub are : AreTokens p bytes at tokens
  pub shown : pieces tokens ≡ ps

-- wherever the text stands, its line has these tokens from there on; behind the line there is what is left
pub record Reads (p : Bool) (text left : List ℕ) (ps : List Piece) : Type 0 where
  pub read : (bytes : List ℕ) (at : ℕ) → drop at bytes ≡ text → HasPieces p bytes at ps
  pub long : prefix_len is_in_line text < length text
  pub below : drop (prefix_len is_in_line text + 1) text ≡ left

-- the text begins a line that isn't skipped
pub record Starts (p : Bool) (text left : List ℕ) (ps : List Piece) : Type 0 where
  pub reads : Reads p text left ps
  pub counts : is_skipped text ≡ false

-- a run of bytes that all pass, before one that doesn't
pub prefix_len-all : (p : ℕ → Bool) (xs ys : List ℕ) → All (λ b. IsTrue (p b)) xs
    → prefix_len p (xs ++ ys) ≡ length xs + prefix_len p ys
prefix_len-all p [] ys all = omega arith
prefix_len-all p (x ∷ xs) ys all =
    ap (λ (b : Bool). cond b (1 + prefix_len p (xs ++ ys)) 0) (All-head (λ b. IsTrue (p b)) x xs all)
    ∙ omega (arith, prefix_len-all p xs ys (All-tail (λ b. IsTrue (p b)) x xs all))

slice_range-front : (bytes : List ℕ) (at : ℕ) (xs ys : List ℕ) → drop at bytes ≡ xs ++ ys
    → slice_range bytes at (at + length xs) ≡ xs
slice_range-front bytes at xs ys e =
    ap (λ (n : ℕ). take n (drop at bytes)) (let n : (at + length xs) - at ≡ length xs = omega arith in n)
    ∙ (ap (λ (zs : List ℕ). take (length xs) zs) e ∙ take-append_seam xs ys)

token_from-here : (bytes : List ℕ) (at b : ℕ) (bs : List ℕ) → drop at bytes ≡ b ∷ bs → is_blank b ≡ false
    → token_from bytes at ≡ token_here at (b ∷ bs)
unfolding token_from
token_from-here bytes at b bs e no_blank =
    let none : prefix_len is_blank (drop at bytes) ≡ 0 = ap (prefix_len is_blank) e
    ∙ ap (λ (x : Bool). cond x (1 + prefix_len is_blank bs) 0) no_blank in
    let place : at + prefix_len is_blank (drop at bytes) ≡ at = omega (arith, none) in
    ap (λ (from : ℕ). token_here from (drop from bytes)) place ∙ ap (token_here at) e

token_from-blank : (bytes : List ℕ) (at : ℕ) (bs : List ℕ) → drop at bytes ≡ 32 ∷ bs → drop (at + 1) bytes ≡ bs
    → token_from bytes (at + 1) ≡ token_from bytes at
unfolding token_from
token_from-blank bytes at bs e f =
    let one : prefix_len is_blank (drop at bytes) ≡ 1 + prefix_len is_blank bs = ap (prefix_len is_blank) e in
    let more : prefix_len is_blank (drop (at + 1) bytes) ≡ prefix_len is_blank bs = ap (prefix_len is_blank) f in
    let place : (at + 1) + prefix_len is_blank (drop (at + 1) bytes)
    ≡ at + prefix_len is_blank (drop at bytes) = omega (arith, one, more) in
    ap (λ (from : ℕ). token_here from (drop from bytes)) place

-- the line ends
pub Reads-feed : (p : Bool) (left : List ℕ) → Reads p (10 ∷ left) left (line_end ∷ [])
unfolding token_here plain_token piece_of
Reads-feed p left =
    record {
      read = λ bytes at e.
          let t : PlainToken = record { from = at; to = at; piece = line_end } in
          let is : first_token p bytes at ≡ t = ap (plain_token p bytes)
          (token_from-here bytes at 10 left e refl) in
          record { tokens = t ∷ []; are = (sym is, refl); shown = refl };
      long = omega arith;
      below = refl;
    }

blank_before : (p : Bool) (bytes : List ℕ) (at : ℕ) (ps : List Piece) → token_from bytes (at + 1) ≡ token_from bytes at
    → (ts : List PlainToken) → AreTokens p bytes (at + 1) ts → AreTokens p bytes at ts
blank_before p bytes at ps same [] are = are
blank_before p bytes at ps same (t ∷ ts) are = (are.0 ∙ ap (plain_token p bytes) same, are.1)

-- a blank is passed over
pub Reads-blank : (p : Bool) (text left : List ℕ) (ps : List Piece) → Reads p text left ps → Reads p (32 ∷ text) left ps
Reads-blank p text left ps r =
    record {
      read = λ bytes at e.
          let f : drop (at + 1) bytes ≡ text = drop-behind bytes at (32 ∷ []) text e in
          let next = r.read bytes (at + 1) f in
          record {
            tokens = next.tokens;
            are = blank_before p bytes at ps (token_from-blank bytes at text e f) next.tokens next.are;
            shown = next.shown;
          };
      long = omega (arith, r.long);
      below = ap (λ (n : ℕ). drop n (32 ∷ text))
          (let n : (1 + prefix_len is_in_line text) + 1 ≡ 1 + (prefix_len is_in_line text + 1) = omega arith in n)
          ∙ (drop-append-add (32 ∷ []) text (prefix_len is_in_line text + 1) ∙ r.below);
    }

-- a token stands at the front
pub record Token-front (p : Bool) (b : ℕ) (bs rest : List ℕ) (kind : TokenKind) : Type 0 where
  pub no_blank : is_blank b ≡ false
  pub counts : (is_feed b || b == 35) ≡ false
  pub no_feed : is_feed b ≡ false
  pub within : prefix_len is_in_line (b ∷ (bs ++ rest)) ≡ length (b ∷ bs) + prefix_len is_in_line rest
  pub long : token_length (b ∷ (bs ++ rest)) ≡ length (b ∷ bs)
  pub shape : (at : ℕ) → token_of (kind_of b (length (b ∷ bs))) at (length (b ∷ bs)) ≡ record {
    kind = kind;
    from = at;
    to = at + length (b ∷ bs);
  }
  pub goes_on : is_last (piece_of p kind (b ∷ bs)) ≡ false

token_here-front : (p : Bool) (b : ℕ) (bs rest : List ℕ) (kind : TokenKind) → Token-front p b bs rest kind → (at : ℕ)
    → token_here at (b ∷ (bs ++ rest)) ≡ record { kind = kind; from = at; to = at + length (b ∷ bs) }
unfolding token_here
token_here-front p b bs rest kind front at =
    ap (λ (x : Bool). cond x (record { kind = LineEnd; from = at; to = at })
    (token_of (kind_of b (token_length (b ∷ (bs ++ rest)))) at (token_length (b ∷ (bs ++ rest))))) front.no_feed
    ∙ (ap (λ (n : ℕ). token_of (kind_of b n) at n) front.long ∙ front.shape at)

counts-front : (b : ℕ) (bs : List ℕ) → is_blank b ≡ false → (is_feed b || b == 35) ≡ false → is_skipped (b ∷ bs) ≡ false
unfolding is_skipped
counts-front b bs no_blank counts =
    ap (λ (x : Bool). ends_or_comments (drop (cond x (1 + prefix_len is_blank bs) 0) (b ∷ bs))) no_blank ∙ counts

pub Starts-token : (p : Bool) (b : ℕ) (bs rest left : List ℕ) (kind : TokenKind) (ps : List Piece)
    → Token-front p b bs rest kind
    → Reads p rest left ps → Starts p (b ∷ (bs ++ rest)) left (piece_of p kind (b ∷ bs) ∷ ps)
unfolding plain_token
Starts-token p b bs rest left kind ps front r =
    record {
      reads = record {
        read = λ bytes at e.
            let n : ℕ = length (b ∷ bs) in
            let t : PlainToken = record { from = at; to = at + n; piece = piece_of p kind (b ∷ bs) } in
            let is : first_token p bytes at ≡ t = ap (plain_token p bytes)
            (token_from-here bytes at b (bs ++ rest) e front.no_blank ∙ token_here-front p b bs rest kind front at)
            ∙ ap (λ (text : List ℕ). record { from = at; to = at + n; piece = piece_of p kind text })
            (slice_range-front bytes at (b ∷ bs) rest e) in
            let next = r.read bytes (at + n) (drop-behind bytes at (b ∷ bs) rest e) in
            record {
              tokens = t ∷ next.tokens;
              are = (
                sym is,
                subst (λ (x : Bool). MatchBool x (next.tokens ≡ [])
                    (AreTokens p bytes (at + n) next.tokens)) (sym front.goes_on) next.are,
              );
              shown = ap (λ (qs : List Piece). piece_of p kind (b ∷ bs) ∷ qs) next.shown;
            };
        long = omega (arith, r.long, front.within, length-append (b ∷ bs) rest);
        below = ap (λ (n : ℕ). drop n (b ∷ (bs ++ rest)))
            (let n : prefix_len is_in_line (b ∷ (bs ++ rest)) + 1
            ≡ length (b ∷ bs) + (prefix_len is_in_line rest + 1) = omega (arith, front.within) in n)
            ∙ (drop-append-add (b ∷ bs) rest (prefix_len is_in_line rest + 1) ∙ r.below);
      };
      counts = counts-front b (bs ++ rest) front.no_blank front.counts;
    }
