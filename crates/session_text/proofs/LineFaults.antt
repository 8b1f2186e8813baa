-- Faults in a line of the session's own.
use Rattle.std.proofs.Common.{◌≡◌, ℕ, ◌+◌, ◌<◌, ◌≤◌, Bool, true, false, cond, List, [], ◌∷◌, ◌++◌, Option, None, refl}
use Rattle.std.proofs.Common.{sym, ap, subst, ◌∙◌, arith, inl, inr, ◌⊎◌}
use Rattle.std.specs.Prelude.{bytes_eq, MatchOption, ◌==◌}
use Rattle.std.proofs.lemmas.Bool.{false≢true}
use Rattle.std.proofs.lemmas.Bool.Decides.{eqb_tells}
use Rattle.lin_model.specs.Lists.{parted}
use Rattle.lin_text.specs.declared.fault.SessionKind.{SessionKind}
use Rattle.lin_text.specs.declared.fault.SessionKind.TheVariants as kinds
use Rattle.lin_text.specs.Pieces.{Piece, var, word, name, number, plus, minus, times, compare, bad, line_end}
use Rattle.lin_text.specs.Pieces.{PlainToken, PlainLine, pieces, AreLines}
use Rattle.lin_text.specs.LineLaws.{LinesAreInOrder}
use Rattle.lin_text.specs.Kinds.{session_rank as rank}
use Rattle.lin_text.specs.FirstFaults.{IsFirst}
use Rattle.lin_text.specs.FirstFaultFacts.{first_here}
use Rattle.session_text.specs.declared.class.Class.TheVariants.{Executor, Query, End, Other}
use Rattle.session_text.specs.Words.{executor_word, query_word, end_word}
use Rattle.session_text.specs.Classes.{class_of, refusal_kind}
use Rattle.session_text.specs.Faults.{Seen, count_of, CanCome, query_above, IsOneTooMany, CantCome, IsOfQuery, rules}
use Rattle.session_text.proofs.FirstFaults.{StandsIn, StandsInLine, ends_last}
use Rattle.session_text.proofs.WordLemmas.{same_bytes, bytes_eq-is, executor_not_query}

-- the fault of a token that can't come next, by what the token is and how often the words came before it
pub data Refused (p : Piece) (e n : ℕ) (kind : SessionKind) : Type 0 where
  no_token : p ≡ bad → kind ≡ kinds.Token → Refused p e n kind
  one_executor : p ≡ word executor_word → e ≡ 64 → kind ≡ kinds.TooManyExecutors → Refused p e n kind
  one_query : p ≡ word query_word → n ≡ 100000 → kind ≡ kinds.TooManyQueries → Refused p e n kind
  cant_come : kind ≡ kinds.Syntax → (p ≡ bad → ⊥) → (p ≡ word executor_word → e ≡ 64 → ⊥)
      → (p ≡ word query_word → n ≡ 100000 → ⊥) → Refused p e n kind

refused_word : (w : List ℕ) (e n : ℕ) → Refused (word w) e n (refusal_kind (class_of (word w)) e n)
refused_word w e n =
    elim (bytes_eq w executor_word) as (λ b. bytes_eq w executor_word ≡ b
    → Refused (word w) e n (refusal_kind (cond b Executor
    (cond (bytes_eq w query_word) Query (cond (bytes_eq w end_word) End Other))) e n)) [
      | true ↦ λ is. an_executor (same_bytes w executor_word is)
      | false ↦ λ other. elim (bytes_eq w query_word) as (λ b. bytes_eq w query_word ≡ b
          → Refused (word w) e n (refusal_kind (cond b Query (cond (bytes_eq w end_word) End Other)) e n)) [
            | true ↦ λ is. a_query (same_bytes w query_word is)
            | false ↦ λ no_query. elim (bytes_eq w end_word) as
                (λ b. Refused (word w) e n (refusal_kind (cond b End Other) e n)) [
                  | true ↦ another other no_query
                  | false ↦ another other no_query
                ]
          ] refl
    ] refl
  where
    an_executor : w ≡ executor_word → Refused (word w) e n (cond (e == 64) kinds.TooManyExecutors kinds.Syntax)
    an_executor is =
        elim (eqb_tells e 64) [
          | inl full ↦ one_executor (ap word is) full.1
              (ap (λ (b : Bool). cond b kinds.TooManyExecutors kinds.Syntax) full.0)
          | inr room ↦
              cant_come (ap (λ (b : Bool). cond b kinds.TooManyExecutors kinds.Syntax) room.0) (λ x. cc)
              (λ x full. room.1 full)
              (λ x full. executor_not_query (let same : w ≡ query_word = cc in sym is ∙ same))
        ]

    a_query : w ≡ query_word → Refused (word w) e n (cond (n == 100000) kinds.TooManyQueries kinds.Syntax)
    a_query is =
        elim (eqb_tells n 100000) [
          | inl full ↦ one_query (ap word is) full.1
              (ap (λ (b : Bool). cond b kinds.TooManyQueries kinds.Syntax) full.0)
          | inr room ↦
              cant_come (ap (λ (b : Bool). cond b kinds.TooManyQueries kinds.Syntax) room.0) (λ x. cc)
              (λ x full. executor_not_query (let same : w ≡ executor_word = cc in sym same ∙ is))
              (λ x full. room.1 full)
        ]

    another : bytes_eq w executor_word ≡ false → bytes_eq w query_word ≡ false → Refused (word w) e n kinds.Syntax
    another other no_query =
        cant_come refl (λ x. cc) (λ x full. false≢true (sym other
        ∙ bytes_eq-is w executor_word (let same : w ≡ executor_word = cc in same)))
        (λ x full. false≢true (sym no_query ∙ bytes_eq-is w query_word (let same : w ≡ query_word = cc in same)))

pub refused : (p : Piece) (e n : ℕ) → Refused p e n (refusal_kind (class_of p) e n)
refused bad e n = no_token refl refl
refused (word w) e n = refused_word w e n
refused var e n = cant_come refl (λ x. cc) (λ x full. absurd (cc)) (λ x full. absurd (cc))
refused (name x) e n = cant_come refl (λ h. cc) (λ h full. absurd (cc)) (λ h full. absurd (cc))
refused (number m) e n = cant_come refl (λ x. cc) (λ x full. absurd (cc)) (λ x full. absurd (cc))
refused plus e n = cant_come refl (λ x. cc) (λ x full. absurd (cc)) (λ x full. absurd (cc))
refused minus e n = cant_come refl (λ x. cc) (λ x full. absurd (cc)) (λ x full. absurd (cc))
refused times e n = cant_come refl (λ x. cc) (λ x full. absurd (cc)) (λ x full. absurd (cc))
refused (compare c) e n = cant_come refl (λ x. cc) (λ x full. absurd (cc)) (λ x full. absurd (cc))
refused line_end e n = cant_come refl (λ x. cc) (λ x full. absurd (cc)) (λ x full. absurd (cc))

pub refused-rank : (p : Piece) (e n : ℕ) (kind : SessionKind) → Refused p e n kind → rank kind ≤ 7
refused-rank p e n kind (no_token b k) = omega (arith, ap rank k)
refused-rank p e n kind (one_executor w f k) = omega (arith, ap rank k)
refused-rank p e n kind (one_query w f k) = omega (arith, ap rank k)
refused-rank p e n kind (cant_come k b w q) = omega (arith, ap rank k)

-- the faults of a token of a line of the session's own
abbrev pub OwnStands : Seen → List Piece → Piece → SessionKind → Type 0
OwnStands seen front p kind = IsOneTooMany seen front p kind ⊎ CantCome seen.part front p kind

-- the refusal goes before each fault of its token
refused-first : (seen : Seen) (front : List Piece) (p : Piece) (kind : SessionKind)
    → Refused p (seen.executors + count_of executor_word front) (seen.queries + count_of query_word front) kind
    → (k : SessionKind) → OwnStands seen front p k → rank kind ≤ rank k
refused-first seen front p kind (no_token b is) k (inl (inl (j, w, full))) =
    absurd (let no : bad ≡ word executor_word = sym b ∙ w in cc)
refused-first seen front p kind (no_token b is) k (inl (inr (j, w, full))) =
    absurd (let no : bad ≡ word query_word = sym b ∙ w in cc)
refused-first seen front p kind (no_token b is) k (inr (inl (j, c))) = omega (arith, ap rank is, ap rank j)
refused-first seen front p kind (no_token b is) k (inr (inr (j, c))) = omega (arith, ap rank is, ap rank j)
refused-first seen front p kind (one_executor x full is) k (inl (inl (j, w, f))) = omega (arith, ap rank is, ap rank j)
refused-first seen front p kind (one_executor x full is) k (inl (inr (j, w, f))) = omega (arith, ap rank is, ap rank j)
refused-first seen front p kind (one_executor x full is) k (inr (inl (j, c))) = omega (arith, ap rank is, ap rank j)
refused-first seen front p kind (one_executor x full is) k (inr (inr (j, c))) = omega (arith, ap rank is, ap rank j)
refused-first seen front p kind (one_query x full is) k (inl (inl (j, w, f))) =
    absurd (executor_not_query (let same : word executor_word ≡ word query_word = sym w ∙ x in cc))
refused-first seen front p kind (one_query x full is) k (inl (inr (j, w, f))) = omega (arith, ap rank is, ap rank j)
refused-first seen front p kind (one_query x full is) k (inr (inl (j, c))) = omega (arith, ap rank is, ap rank j)
refused-first seen front p kind (one_query x full is) k (inr (inr (j, c))) = omega (arith, ap rank is, ap rank j)
refused-first seen front p kind (cant_come is b x q) k (inl (inl (j, w, f))) = absurd (x w f)
refused-first seen front p kind (cant_come is b x q) k (inl (inr (j, w, f))) = absurd (q w f)
refused-first seen front p kind (cant_come is b x q) k (inr (inl (j, c))) = absurd (b c)
refused-first seen front p kind (cant_come is b x q) k (inr (inr (j, c))) = omega (arith, ap rank is, ap rank j)

pub refused-stands : (seen : Seen) (front : List Piece) (p : Piece) (kind : SessionKind)
    → ¬ CanCome seen.part (front ++ p ∷ []) → Refused p (seen.executors + count_of executor_word front)
    (seen.queries + count_of query_word front) kind → OwnStands seen front p kind
refused-stands seen front p kind cant (no_token b is) = inr (inl (is, b))
refused-stands seen front p kind cant (one_executor x full is) = inl (inl (is, x, full))
refused-stands seen front p kind cant (one_query x full is) = inl (inr (is, x, full))
refused-stands seen front p kind cant (cant_come is b x q) = inr (inr (is, cant))

-- the line isn't of a query
abbrev pub IsOwn : Seen → List PlainToken → Type 0
IsOwn seen ts = query_above seen.part (pieces ts) ≡ None

pub own_stands : (seen : Seen) (line : PlainLine) → IsOwn seen line.tokens
    → (k : SessionKind) (p : ℕ) (s : StandsInLine seen line k p) → OwnStands seen (pieces s.front) s.token.piece k
own_stands seen line own k p s =
    subst (λ (o : Option (List PlainLine)). IsOneTooMany seen (pieces s.front) s.token.piece k
    ⊎ MatchOption o (CantCome seen.part (pieces s.front) s.token.piece k)
    (λ above. IsOfQuery above (pieces s.front) s.token.piece (pieces s.after) k)) own s.stands

-- A token of a line of the session's own at which a fault stands, behind tokens without one: it is the first from there
-- on.
module _ (in_order : LinesAreInOrder) (bytes : List ℕ) (seen : Seen) (at : ℕ) (line : PlainLine)
    (lines : List PlainLine) (are : AreLines false bytes at (line ∷ lines)) (own : IsOwn seen line.tokens)
    (front more : List PlainToken) (t : PlainToken) (split : line.tokens ≡ front ++ t ∷ more)
    (clean : (before mid : List PlainToken) (u : PlainToken) → front ≡ before ++ u ∷ mid → (k : SessionKind)
    → OwnStands seen (pieces before) u.piece k
    → ⊥) (kind : SessionKind) (is : Refused t.piece (seen.executors + count_of executor_word (pieces front))
    (seen.queries + count_of query_word (pieces front)) kind) (there : OwnStands seen (pieces front) t.piece kind) where
  stands : StandsInLine seen line kind t.from
  stands = record {
    front = front;
    token = t;
    after = more;
    in_line = split;
    place = refl;
    stands = subst (λ (o : Option (List PlainLine)). IsOneTooMany seen (pieces front) t.piece kind
        ⊎ MatchOption o (CantCome seen.part (pieces front) t.piece kind)
        (λ above. IsOfQuery above (pieces front) t.piece (pieces more) kind)) (sym own) there;
  }

  least : (k : SessionKind) (p : ℕ) → StandsInLine seen line k p → (t.from < p) ⊎ ((t.from ≡ p) × (rank kind ≤ rank k))
  least k p s =
      elim (parted front more t s.front s.after s.token (sym split ∙ s.in_line)) [
        | inl later ↦
            let there : line.tokens ≡ front ++ t ∷ (later.0 ++ s.token ∷ s.after) = split
            ∙ ap (λ (us : List PlainToken). front ++ t ∷ us) later.2 in
            inl (omega (
              arith,
              (in_order false bytes).token_later line.start line.tokens front later.0 s.after t s.token
                  are.2 there,
              s.place,
            ))
        | inr other ↦ elim other [
          | inl same ↦
              inr (
                ap (λ (u : PlainToken). u.from) same.1 ∙ sym s.place,
                refused-first seen (pieces front) t.piece kind is k
                    (subst (λ (us : List PlainToken). OwnStands seen (pieces us) t.piece k) (sym same.0)
                    (subst (λ (u : PlainToken). OwnStands seen (pieces s.front) u.piece k) (sym same.1)
                    (own_stands seen line own k p s))),
              )
          | inr earlier ↦ absurd (clean s.front earlier.0 s.token earlier.1 k (own_stands seen line own k p s))
        ]
      ]

  pub refused_at : IsFirst rank (StandsIn bytes seen (line ∷ lines)) kind t.from
  refused_at = first_here rules ends_last false bytes (in_order false bytes) seen at line lines are kind t.from stands
      least
