-- Faults at the first and the second token of a line of the session's own, at the end, and in the header.
use Rattle.std.proofs.Common.{◌≡◌, ℕ, ◌+◌, ◌<◌, ◌≤◌, true, false, nat_lt, List, [], ◌∷◌, ◌++◌, length, drop, refl, sym}
use Rattle.std.proofs.Common.{ap, subst, ◌∙◌, arith, inl, inr, ◌⊎◌, length-drop}
use Rattle.std.proofs.lemmas.List.Sums.{prefix_len-le-length}
use borrow.Author.Tests.{ltb-true, ltb-false}
use Rattle.lin_text.specs.declared.fault.SessionKind.{SessionKind}
use Rattle.lin_text.specs.declared.fault.SessionKind.TheVariants as kinds
use Rattle.lin_text.specs.Lines.{line_from, line_end as end_of, is_in_line}
use Rattle.lin_text.specs.Pieces.{Piece, word, line_end, PlainToken, PlainLine, pieces, AreLines}
use Rattle.lin_text.specs.LineLaws.{LinesAreInOrder}
use Rattle.lin_text.specs.Facts.{first_line-bounds}
use Rattle.lin_text.specs.Kinds.{session_rank as rank}
use Rattle.lin_text.specs.FirstFaultFacts.{IsFirst-map, stands_behind}
use Rattle.session_text.specs.Words.{executor_word, query_word, token_at, second_at, IsHeader}
use Rattle.session_text.specs.Sessions.{body_of}
use Rattle.session_text.specs.Classes.{class_of, refusal_kind}
use Rattle.session_text.specs.Faults.{ended, Seen, count_of, CanCome, StandsAt, nothing_seen, HasFault, rules}
use Rattle.session_text.specs.Reading.{HasFaultFrom}
use Rattle.session_text.proofs.FirstFaults.{StandsIn}
use Rattle.session_text.proofs.TokenLemmas.{one_token, first_two}
use Rattle.session_text.proofs.LineFaults.{Refused, one_executor, one_query, refused, OwnStands, refused-stands}
use Rattle.session_text.proofs.LineFaults.{refused_at}
use Rattle.session_text.proofs.WordLines.{IsNoQuery, IsWelcome, welcome_clean, Lines, lines_there, begins_before_end}

only_end : (w : List ℕ) (p : Piece) (v : List ℕ) (more : List Piece)
    → word v ∷ line_end ∷ [] ≡ (word w ∷ p ∷ []) ++ more → p ≡ line_end
only_end w p v more e = cc

-- no line is left, and no end line came
pub no_end : (bytes : List ℕ) (seen : Seen) (at : ℕ) → line_from bytes at ≡ length bytes → (seen.part ≡ ended → ⊥)
    → HasFaultFrom seen bytes at kinds.NoEnd (length bytes)
no_end bytes seen at none goes_on = record {
  lines = [];
  are = none;
  first = record {
    stands = ((refl, goes_on), refl);
    least = λ k p s. inr (sym s.1, let same : 13 ≡ rank k = sym (ap rank s.0.0) in omega (arith, same));
  };
}

-- behind the header
pub whole_fault : (bytes : List ℕ) → IsHeader bytes (line_from bytes 0) → (k : SessionKind) (p : ℕ)
    → HasFaultFrom nothing_seen bytes (body_of bytes) k p → HasFault bytes k p
whole_fault bytes is k p h = record {
  lines = h.lines;
  are = h.are;
  first = IsFirst-map rank (StandsIn bytes nothing_seen h.lines) (StandsAt bytes h.lines) k p (λ j q s. inr s)
      (λ j q s. below j q s) h.first;
} where
  below : (j : SessionKind) (q : ℕ) → StandsAt bytes h.lines j q → StandsIn bytes nothing_seen h.lines j q
  below j q (inl b) = absurd (b.other is)
  below j q (inr s) = s

pub fault_behind : (bytes : List ℕ) → IsHeader bytes (line_from bytes 0) → (k : SessionKind) (p : ℕ)
    → HasFault bytes k p → HasFaultFrom nothing_seen bytes (body_of bytes) k p
fault_behind bytes is k p h = record {
  lines = h.lines;
  are = h.are;
  first = IsFirst-map rank (StandsAt bytes h.lines) (StandsIn bytes nothing_seen h.lines) k p (λ j q s. below j q s)
      (λ j q s. inr s) h.first;
} where
  below : (j : SessionKind) (q : ℕ) → StandsAt bytes h.lines j q → StandsIn bytes nothing_seen h.lines j q
  below j q (inl b) = absurd (b.other is)
  below j q (inr s) = s

-- the lines and tokens of a text are in order
module _ (in_order : LinesAreInOrder) where
  -- a fault at the first token of a line
  first_at : (bytes : List ℕ) (seen : Seen) (at : ℕ) → IsNoQuery seen.part → line_from bytes at < length bytes
      → (kind : SessionKind) → Refused (token_at bytes (line_from bytes at)).piece seen.executors seen.queries kind
      → OwnStands seen [] (token_at bytes (line_from bytes at)).piece kind
      → HasFaultFrom seen bytes at kind (token_at bytes (line_from bytes at)).from
  first_at bytes seen at own lt kind is there =
      let l = lines_there in_order bytes at lt in
      let start : ℕ = line_from bytes at in
      let line : PlainLine = record { start = start; tokens = l.tokens } in
      let one = one_token bytes start l.tokens l.are.2 in
      let e : seen.executors ≡ seen.executors + count_of executor_word [] = omega arith in
      let n : seen.queries ≡ seen.queries + count_of query_word [] = omega arith in
      record {
        lines = line ∷ l.lines;
        are = l.are;
        first = refused_at in_order bytes seen at line l.lines l.are (own (pieces l.tokens)) [] one.0
            (token_at bytes start) one.1 (λ before mid u f k o. none before mid u f) kind
            (subst (λ (m : ℕ). Refused (token_at bytes start).piece m (seen.queries + count_of query_word []) kind) e
            (subst (λ (m : ℕ). Refused (token_at bytes start).piece seen.executors m kind) n is)) there;
      }
    where
      none : (before mid : List PlainToken) (u : PlainToken) → [] ≡ before ++ u ∷ mid → ⊥
      none [] mid u f = cc
      none (b ∷ before) mid u f = cc

  -- a token that can't begin a line
  pub first_refused : (bytes : List ℕ) (seen : Seen) (at : ℕ) → IsNoQuery seen.part → line_from bytes at < length bytes
      → ¬ CanCome seen.part ((token_at bytes (line_from bytes at)).piece ∷ [])
      → HasFaultFrom seen bytes at (refusal_kind
      (class_of (token_at bytes (line_from bytes at)).piece) seen.executors seen.queries)
      (token_at bytes (line_from bytes at)).from
  first_refused bytes seen at own lt cant =
      let p : Piece = (token_at bytes (line_from bytes at)).piece in
      let kind : SessionKind = refusal_kind (class_of p) seen.executors seen.queries in
      let is : Refused p seen.executors seen.queries kind = refused p seen.executors seen.queries in
      let e : seen.executors ≡ seen.executors + count_of executor_word [] = omega arith in
      let n : seen.queries ≡ seen.queries + count_of query_word [] = omega arith in
      first_at bytes seen at own lt kind is (refused-stands seen [] p kind cant
      (subst (λ (m : ℕ). Refused p m (seen.queries + count_of query_word []) kind) e
      (subst (λ (m : ℕ). Refused p seen.executors m kind) n is)))

  -- a word that comes once too often
  pub too_many_executors : (bytes : List ℕ) (seen : Seen) (at : ℕ) → IsNoQuery seen.part
      → (token_at bytes (line_from bytes at)).piece ≡ word executor_word → seen.executors ≡ 64
      → HasFaultFrom seen bytes at kinds.TooManyExecutors (token_at bytes (line_from bytes at)).from
  too_many_executors bytes seen at own is full =
      first_at bytes seen at own (begins_before_end bytes (line_from bytes at) executor_word is) kinds.TooManyExecutors
      (one_executor is full refl) (inl (inl (
        refl,
        is,
        let same : seen.executors + count_of executor_word [] ≡ 64 = omega (arith, full) in same,
      )))

  pub too_many_queries : (bytes : List ℕ) (seen : Seen) (at : ℕ) → IsNoQuery seen.part
      → (token_at bytes (line_from bytes at)).piece ≡ word query_word → seen.queries ≡ 100000
      → HasFaultFrom seen bytes at kinds.TooManyQueries (token_at bytes (line_from bytes at)).from
  too_many_queries bytes seen at own is full =
      first_at bytes seen at own (begins_before_end bytes (line_from bytes at) query_word is) kinds.TooManyQueries
      (one_query is full refl) (inl (inr (
        refl,
        is,
        let same : seen.queries + count_of query_word [] ≡ 100000 = omega (arith, full) in same,
      )))

  -- a second token that isn't the line's end
  pub second_refused : (bytes : List ℕ) (seen : Seen) (at : ℕ) (w : List ℕ) → IsNoQuery seen.part
      → (token_at bytes (line_from bytes at)).piece ≡ word w → IsWelcome seen w
      → ((second_at bytes (line_from bytes at)).piece ≡ line_end → ⊥)
      → HasFaultFrom seen bytes at (refusal_kind (class_of (second_at bytes (line_from bytes at)).piece)
      (seen.executors + count_of executor_word (word w ∷ [])) (seen.queries + count_of query_word (word w ∷ [])))
      (second_at bytes (line_from bytes at)).from
  second_refused bytes seen at w own begins welcome goes_on = record {
    lines = line ∷ l.lines;
    are = l.are;
    first = refused_at in_order bytes seen at line l.lines l.are (own (pieces l.tokens))
        (t ∷ []) two.0 u two.1 clean kind (refused_here t.piece begins) (stands_here t.piece begins);
  } where
    start : ℕ
    start = line_from bytes at

    l : Lines bytes at
    l = lines_there in_order bytes at (begins_before_end bytes (line_from bytes at) w begins)

    line : PlainLine
    line = record { start = line_from bytes at; tokens = l.tokens }

    t : PlainToken
    t = token_at bytes (line_from bytes at)

    u : PlainToken
    u = second_at bytes (line_from bytes at)

    two : (more : List PlainToken) × (l.tokens ≡ t ∷ u ∷ more)
    two = first_two bytes (line_from bytes at) w l.tokens l.are.2 begins

    e : ℕ
    e = seen.executors + count_of executor_word (word w ∷ [])

    n : ℕ
    n = seen.queries + count_of query_word (word w ∷ [])

    kind : SessionKind
    kind = refusal_kind (class_of u.piece) e n

    cant : ¬ CanCome seen.part (word w ∷ u.piece ∷ [])
    cant c = goes_on (only_end w u.piece c.w c.more c.written)

    refused_here : (p : Piece) → p ≡ word w → Refused u.piece (seen.executors + count_of executor_word (p ∷ []))
        (seen.queries + count_of query_word (p ∷ [])) kind
    refused_here p is = subst (λ (q : Piece).
        Refused u.piece (seen.executors + count_of executor_word (q ∷ []))
        (seen.queries + count_of query_word (q ∷ [])) kind) (sym is) (refused u.piece e n)

    stands_here : (p : Piece) → p ≡ word w → OwnStands seen (p ∷ []) u.piece kind
    stands_here p is = subst (λ (q : Piece). OwnStands seen (q ∷ []) u.piece kind) (sym is)
        (refused-stands seen (word w ∷ []) u.piece kind cant (refused u.piece e n))

    clean : (before mid : List PlainToken) (v : PlainToken) → t ∷ [] ≡ before ++ v ∷ mid → (k : SessionKind)
        → OwnStands seen (pieces before) v.piece k → ⊥
    clean [] mid v f k o = welcome_clean seen w welcome k
        (subst (λ (p : Piece). OwnStands seen [] p k) (ap (λ (x : PlainToken). x.piece) (let same : v ≡ t = cc in same)
        ∙ begins) o)
    clean (b ∷ []) mid v f k o = cc
    clean (b ∷ c ∷ before) mid v f k o = cc

  -- the first line isn't the header
  pub bad_header : (bytes : List ℕ) → ¬ IsHeader bytes (line_from bytes 0)
      → HasFault bytes kinds.BadHeader (token_at bytes (line_from bytes 0)).from
  bad_header bytes other = record {
    lines = more.0;
    are = more.1;
    first = record { stands = inl (record { other = other; is = refl; place = refl }); least = least };
  } where
    start : ℕ
    start = line_from bytes 0

    place : ℕ
    place = (token_at bytes (line_from bytes 0)).from

    more : (lines : List PlainLine) × AreLines false bytes (body_of bytes) lines
    more = (in_order false bytes).has_lines (body_of bytes) (omega arith)

    within : place ≤ end_of bytes (line_from bytes 0)
    within = let a = (in_order false bytes).first_ahead (line_from bytes 0) in omega (arith, a.order, a.within)

    whole : end_of bytes (line_from bytes 0) ≤ length bytes
    whole = omega (
      arith,
      prefix_len-le-length is_in_line (drop (line_from bytes 0) bytes),
      length-drop (line_from bytes 0) bytes,
      (first_line-bounds true 0 bytes).1,
    )

    least : (k : SessionKind) (p : ℕ) → StandsAt bytes more.0 k p
        → (place < p) ⊎ ((place ≡ p) × (rank kinds.BadHeader ≤ rank k))
    least k p (inl b) = inr (sym b.place, omega arith)
    least k p (inr s) =
        elim (stands_behind rules false bytes (in_order false bytes) nothing_seen (body_of bytes) more.0 (omega arith)
        more.1 k p s) [
          | inl h ↦ inl (omega (arith, h.0, h.1, within))
          | inr h ↦ elim (nat_lt place p) as (λ b. nat_lt place p ≡ b
              → (place < p) ⊎ ((place ≡ p) × (rank kinds.BadHeader ≤ rank k))) [
                | true ↦ λ e. inl (ltb-true place p e)
                | false ↦ λ e. let ge : p ≤ place =
                    ltb-false place p e in inr (omega (arith, ge, h.2, within, whole), omega arith)
              ] refl
        ]
