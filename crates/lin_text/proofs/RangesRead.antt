-- What is spelled as two integers is read as them.
use Rattle.std.proofs.Common.{◌≡◌, ℕ, ◌^◌, ◌≤◌, min, Bool, true, false, cond, nat_lt, List, [], ◌∷◌, ◌++◌}
use Rattle.std.proofs.Common.{refl, sym, ap, ◌∙◌, append_assoc, arith, ℤ, pos, neg_ℤ, ◌<ℤ◌}
use Rattle.std.specs.Prelude.{Ok, Err}
use borrow.Author.Tests.{ltb-true}
use Rattle.lin_text.specs.declared.fault.TextKind.TheVariants.{NumberTooLarge}
use Rattle.lin_text.specs.declared.class.Lexeme.{Lexeme}
use Rattle.lin_text.specs.Pieces.{Piece, number, minus, PlainToken, pieces, AreTokens}
use Rattle.lin_text.specs.Pieces.{is_last}
use Rattle.lin_text.specs.Classes.{class_of, shown}
use Rattle.lin_text.specs.Grammar.{sign, integer_pieces, integer_value}
use Rattle.lin_text.specs.Faults.{IsEmptyRange}
use Rattle.lin_text.specs.Reading.{Read, lexeme_at, fault_at, is_minus, bound_by, bound_of, integer_at}
use Rattle.lin_text.specs.Reading.{◌>>=◌}
use Rattle.lin_text.proofs.Outcomes.{token_of}

-- what is spelled as an integer is read as it
not_over : (n : ℕ) → n ≤ 2 ^ 31 → (b : Bool) → nat_lt (2 ^ 31) (min n (2 ^ 50)) ≡ b → b ≡ false
not_over n le true e = absurd (omega (arith, ltb-true (2 ^ 31) (min n (2 ^ 50)) e))
not_over n le false e = refl

bound_reads : (t : PlainToken) (n : ℕ) → t.piece ≡ number n → n ≤ 2 ^ 31 → bound_of (shown t) ≡ Ok (pos n, t.to)
unfolding bound_of
bound_reads t n is le =
    let same : min n (2 ^ 50) ≡ n = omega arith in
    ap (λ (q : Piece). bound_by (class_of q) (shown t)) is
    ∙ ap (λ (b : Bool). cond b (Err (fault_at NumberTooLarge t.from)) (Ok (pos (min n (2 ^ 50)), t.to)))
    (not_over n le _ refl)
    ∙ ap (λ (m : ℕ). Ok (pos m, t.to)) same

abbrev integer_by : Bool → List ℕ → Lexeme → Read (ℤ × ℕ)
integer_by p bytes l =
    cond (is_minus l.class) (bound_of (lexeme_at p bytes l.to) >>= λ n. Ok (neg_ℤ n.0, n.1)) (bound_of l)

-- an integer that stands there is read
abbrev Reads : Bool → List ℕ → ℕ → ℤ → List Piece → Type 0
Reads p bytes at z more = (to : ℕ) × (rest : List PlainToken) × (integer_at p bytes at ≡ Ok (z, to))
    × AreTokens p bytes to rest × (pieces rest ≡ more)

reads_plain : (p : Bool) (bytes : List ℕ) (at : ℕ) (ts : List PlainToken) (n : ℕ) (more : List Piece) → n ≤ 2 ^ 31
    → AreTokens p bytes at ts → pieces ts ≡ number n ∷ more → Reads p bytes at (pos n) more
unfolding integer_at
reads_plain p bytes at ts n more le are e =
    let t = token_of p bytes at ts are in
    let all : t.token.piece ∷ pieces t.more ≡ number n ∷ more = ap pieces (sym t.split) ∙ e in
    let is : t.token.piece ≡ number n = cc in (
      t.token.to,
      t.more,
      ap (integer_by p bytes) t.shows
          ∙ ap (λ (q : Piece). cond (is_minus (class_of q))
          (bound_of (lexeme_at p bytes t.token.to) >>= λ m. Ok (neg_ℤ m.0, m.1)) (bound_of (shown t.token))) is
          ∙ bound_reads t.token n is le,
      t.on (ap is_last is),
      cc,
    )

reads_minus : (p : Bool) (bytes : List ℕ) (at : ℕ) (ts : List PlainToken) (n : ℕ) (more : List Piece) → n ≤ 2 ^ 31
    → AreTokens p bytes at ts → pieces ts ≡ minus ∷ number n ∷ more → Reads p bytes at (neg_ℤ (pos n)) more
unfolding integer_at
reads_minus p bytes at ts n more le are e =
    let t = token_of p bytes at ts are in
    let all : t.token.piece ∷ pieces t.more ≡ minus ∷ number n ∷ more = ap pieces (sym t.split) ∙ e in
    let is : t.token.piece ≡ minus = cc in
    let behind : pieces t.more ≡ number n ∷ more = cc in
    let there = t.on (ap is_last is) in
    let u = token_of p bytes t.token.to t.more there in
    let next_all : u.token.piece ∷ pieces u.more ≡ number n ∷ more = ap pieces (sym u.split) ∙ behind in
    let isn : u.token.piece ≡ number n = cc in (
      u.token.to,
      u.more,
      ap (integer_by p bytes) t.shows
          ∙ ap (λ (q : Piece). cond (is_minus (class_of q))
          (bound_of (lexeme_at p bytes t.token.to) >>= λ m. Ok (neg_ℤ m.0, m.1)) (bound_of (shown t.token))) is
          ∙ ap (λ (l : Lexeme). bound_of l >>= λ m. Ok (neg_ℤ m.0, m.1)) u.shows
          ∙ ap (λ (r : Read (ℤ × ℕ)). r >>= λ m. Ok (neg_ℤ m.0, m.1)) (bound_reads u.token n isn le),
      u.on (ap is_last isn),
      cc,
    )

integer_reads : (p : Bool) (bytes : List ℕ) (at : ℕ) (ts : List PlainToken) (negative : Bool) (n : ℕ)
    (more : List Piece) → n ≤ 2 ^ 31 → AreTokens p bytes at ts → pieces ts ≡ (sign negative ++ number n ∷ []) ++ more
    → Reads p bytes at (integer_value (record { negative = negative; size = n })) more
integer_reads p bytes at ts true n more le are e = reads_minus p bytes at ts n more le are e
integer_reads p bytes at ts false n more le are e = reads_plain p bytes at ts n more le are e

-- an empty range is read as two integers, the upper one below the lower one
pub range_reads : (p : Bool) (bytes : List ℕ) (at : ℕ) (ts : List PlainToken) → AreTokens p bytes at ts
    → IsEmptyRange (pieces ts) → (lo : ℤ) × (hi : ℤ) × (a : ℕ) × (b : ℕ) × (integer_at p bytes at ≡ Ok (lo, a))
    × (integer_at p bytes a ≡ Ok (hi, b)) × (hi <ℤ lo)
range_reads p bytes at ts are e =
    let first = integer_reads p bytes at ts e.lo.negative e.lo.size (integer_pieces e.hi ++ e.more) e.lo_fits are
    (e.written ∙ append_assoc (integer_pieces e.lo) (integer_pieces e.hi) e.more) in
    let second = integer_reads p bytes first.0 first.1 e.hi.negative e.hi.size e.more e.hi_fits first.3 first.4 in
    (integer_value e.lo, integer_value e.hi, first.0, second.0, first.2, second.2, e.empty)
