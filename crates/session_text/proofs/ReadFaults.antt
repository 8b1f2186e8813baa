-- The first fault of a query's text is the first of the session's text from there on.
use Rattle.std.proofs.Common.{◌≡◌, ℕ, ◌+◌, ◌<◌, ◌≤◌, false, List, [], ◌∷◌, ◌++◌, length, drop, length-drop, refl, sym}
use Rattle.std.proofs.Common.{ap, subst, ◌∙◌, arith, inl, inr, ◌⊎◌, append_assoc}
use Rattle.std.proofs.lemmas.List.Sums.{prefix_len-le-length}
use Rattle.lin_text.specs.declared.fault.TextKind.{TextKind}
use Rattle.lin_text.specs.declared.fault.TextKind.TheVariants as texts
use Rattle.lin_text.specs.declared.fault.SessionKind.{SessionKind}
use Rattle.lin_text.specs.Lines.{line_below, is_in_line}
use Rattle.lin_text.specs.Pieces.{Piece, word, bad, PlainToken, PlainLine, pieces, AreLines}
use Rattle.lin_text.specs.Faults.{Stands, StandsAt as LinesFault, IsFirstFault}
use Rattle.lin_text.specs.Kinds.{rank as text_rank, session_kind, session_rank as rank}
use Rattle.lin_text.specs.Queries.{begins_word, HasFault}
use Rattle.lin_text.specs.Laws.{WordsStandInNoLine}
use Rattle.lin_text.specs.LineLaws.{LinesAreInOrder}
use Rattle.lin_text.specs.FirstFaultFacts.{IsFirst-map, first_here}
use Rattle.lin_text.specs.KindFacts.{rank-kept}
use Rattle.session_text.specs.Words.{executor_word, query_word, token_at}
use Rattle.session_text.specs.Classes.{class_of, query_refusal}
use Rattle.session_text.specs.Faults.{count_of, IsOneTooMany, IsOfQuery, rules}
use Rattle.session_text.specs.Reading.{HasFaultFrom}
use Rattle.session_text.proofs.FirstFaults.{StandsIn, StandsInLine, ends_last}
use Rattle.session_text.proofs.WordLemmas.{executor_not_query}
use Rattle.session_text.proofs.TokenLemmas.{token-again}
use Rattle.session_text.proofs.LineFaults.{Refused, no_token, one_executor, one_query, cant_come, refused, refused-rank}
use Rattle.session_text.proofs.QueryFaults.{word_stands, word_first, count_none, in_query, query_stands, stands_query}
use Rattle.session_text.proofs.QueryFaults.{AreCleanLines, clean_prefix, NoWords, Cut, cut, are_rest}

-- how the fault of a query is answered in a session
data Answered (p : Piece) (e n : ℕ) (k : TextKind) (kind : SessionKind) : Type 0 where
  a_token : k ≡ texts.Syntax → Refused p e n kind → Answered p e n k kind
  as_it_is : (k ≡ texts.Syntax → ⊥) → kind ≡ session_kind k → Answered p e n k kind

answered : (k : TextKind) (p : Piece) (e n : ℕ) → Answered p e n k (query_refusal k (class_of p) e n)
answered texts.Syntax p e n = a_token refl (refused p e n)
answered texts.TooManyVars p e n = as_it_is (λ x. cc) refl
answered texts.TooManyAtoms p e n = as_it_is (λ x. cc) refl
answered texts.TooManyTerms p e n = as_it_is (λ x. cc) refl
answered texts.Token p e n = as_it_is (λ x. cc) refl
answered texts.NumberTooLarge p e n = as_it_is (λ x. cc) refl
answered texts.UnknownName p e n = as_it_is (λ x. cc) refl
answered texts.NameTwice p e n = as_it_is (λ x. cc) refl
answered texts.EmptyRange p e n = as_it_is (λ x. cc) refl
answered texts.NoMemory p e n = as_it_is (λ x. cc) refl

answered-rank : (p : Piece) (e n : ℕ) (k : TextKind) (kind : SessionKind) → Answered p e n k kind
    → rank kind ≤ 3 + text_rank k
answered-rank p e n k kind (a_token is r) = omega (arith, refused-rank p e n kind r, ap text_rank is)
answered-rank p e n k kind (as_it_is other is) = omega (arith, ap rank is, rank-kept k)

NoWords-at : (above lines : List PlainLine) (line : PlainLine) (own : List PlainLine) → own ≡ above ++ line ∷ lines
    → NoWords own → NoWords above × (begins_word (pieces line.tokens) ≡ false)
NoWords-at [] lines line [] e h = absurd (cc)
NoWords-at [] lines line (o ∷ own) e h =
    let same : o ≡ line = cc in (tt, subst (λ (l : PlainLine). begins_word (pieces l.tokens) ≡ false) same h.0)
NoWords-at (a ∷ above) lines line [] e h = absurd (cc)
NoWords-at (a ∷ above) lines line (o ∷ own) e h =
    let same : o ≡ a = cc in
    let rest : own ≡ above ++ line ∷ lines = cc in
    let more = NoWords-at above lines line own rest h.1 in
    ((subst (λ (l : PlainLine). begins_word (pieces l.tokens) ≡ false) same h.0, more.0), more.1)

-- the lines and tokens of a text are in order
module _ (in_order : LinesAreInOrder) where
  -- the lines above the first fault are clean
  earlier_clean : (bytes : List ℕ) (at : ℕ) (above lines : List PlainLine) (line : PlainLine)
      (below more : List PlainLine) → AreLines false bytes at (lines ++ line ∷ more) → NoWords lines
      → (k : TextKind) (place : ℕ) → IsFirstFault (above ++ (lines ++ line ∷ below)) k place → line.start ≤ place
      → AreCleanLines above lines
  earlier_clean bytes at above [] line below more are own k place first here = tt
  earlier_clean bytes at above (l ∷ lines) line below more are own k place first here = (
    own.0,
    λ front after t e j s.
        let w = (in_order false bytes).token_within l.start l.tokens front after t are.2 e in
        let b = (in_order false bytes).line_behind (line_below bytes l.start)
        (lines ++ line ∷ more) lines more line are.3 refl in
        elim (first.least j t.from (record {
          above = above;
          line = l;
          below = lines ++ line ∷ below;
          front = front;
          token = t;
          after = after;
          in_lines = refl;
          in_line = e;
          place = refl;
          stands = s;
        })) [
          | inl later ↦ omega (arith, later, here, w.1, b.0, b.1)
          | inr same ↦ omega (arith, same.0, here, w.1, b.0, b.1)
        ],
    earlier_clean bytes (line_below bytes l.start) (above ++ l ∷ []) lines line below more are.3 own.1 k place
        (subst (λ (ls : List PlainLine). IsFirstFault ls k place)
        (sym (append_assoc above (l ∷ []) (lines ++ line ∷ below))) first) here,
  )

-- The first fault of a query's text.
module _ (in_order : LinesAreInOrder) (no_word : WordsStandInNoLine) (bytes : List ℕ) (at : ℕ) (k : TextKind)
    (place : ℕ) (h : HasFault false bytes at k place) (e n : ℕ) where
  abbrev c : Cut h.lines
  c = cut h.lines

  first : IsFirstFault c.own k place
  first = subst (λ (ls : List PlainLine). IsFirstFault ls k place) c.are h.first

  abbrev f : LinesFault c.own k place
  f = first.stands

  abbrev below : List PlainLine
  below = f.below ++ c.rest

  all : AreLines false bytes at (f.above ++ f.line ∷ below)
  all = subst (λ (ls : List PlainLine). AreLines false bytes at ls) (c.all
      ∙ ap (λ (ls : List PlainLine). ls ++ c.rest) f.in_lines ∙ append_assoc f.above (f.line ∷ f.below) c.rest) h.are

  here : AreLines false bytes f.line.start (f.line ∷ below)
  here = are_rest bytes at f.above (f.line ∷ below) all

  own : NoWords f.above × (begins_word (pieces f.line.tokens) ≡ false)
  own = NoWords-at f.above f.below f.line c.own f.in_lines c.no_words

  behind_start : f.line.start ≤ place
  behind_start = omega (
    arith,
    f.place,
    ((in_order false bytes).token_within f.line.start f.line.tokens f.front f.after
        f.token here.2 f.in_line).0,
  )

  clean : AreCleanLines [] f.above
  clean = earlier_clean in_order bytes at [] f.above f.line f.below below all own.0 k place
      (subst (λ (ls : List PlainLine). IsFirstFault ls k place) f.in_lines first) behind_start

  -- a fault of the line is one of the query's text
  in_text : (front after : List PlainToken) (t : PlainToken) → f.line.tokens ≡ front ++ t ∷ after → (j : TextKind)
      → Stands f.above (pieces front) t.piece (pieces after) j → LinesFault c.own j t.from
  in_text front after t split j s = record {
    above = f.above;
    line = f.line;
    below = f.below;
    front = front;
    token = t;
    after = after;
    in_lines = f.in_lines;
    in_line = split;
    place = refl;
    stands = s;
  }

  word_in_text : (front after : List PlainToken) (t : PlainToken) (w : List ℕ) → f.line.tokens ≡ front ++ t ∷ after
      → t.piece ≡ word w → LinesFault c.own texts.Syntax t.from
  word_in_text front after t w split is = in_text front after t split texts.Syntax
      (subst (λ (p : Piece). Stands f.above (pieces front) p (pieces after) texts.Syntax) (sym is)
      (word_stands no_word f.above (pieces front) (pieces after) w))

  -- no word stands before the fault
  none_before : (front after : List PlainToken) (t : PlainToken) → f.line.tokens ≡ front ++ t ∷ after → t.from ≤ place
      → (w : List ℕ) → count_of w (pieces front) ≡ 0
  none_before front after t split le w =
      count_none w front (λ before mid u e x is.
      let there : f.line.tokens ≡ before ++ u ∷ (mid ++ t ∷ after) = split
      ∙ ap (λ (us : List PlainToken). us ++ t ∷ after) e ∙ append_assoc before (u ∷ mid) (t ∷ after) in
      let earlier : u.from < t.from = (in_order false bytes).token_later f.line.start f.line.tokens before mid after u t
      here.2 there in
      elim (first.least texts.Syntax u.from (word_in_text before (mid ++ t ∷ after) u x there is)) [
        | inl later ↦ omega (arith, later, earlier, le)
        | inr same ↦ omega (arith, same.0, earlier, le)
      ])

  module _ (kind : SessionKind) (way : Answered f.token.piece e n k kind) where
    -- a fault of the query's text that is answered as it is
    plain : (j : TextKind) → kind ≡ session_kind j → Stands f.above (pieces f.front) f.token.piece (pieces f.after) j
        → IsOneTooMany (in_query f.above e n) (pieces f.front) f.token.piece kind
        ⊎ IsOfQuery f.above (pieces f.front) f.token.piece (pieces f.after) kind
    plain j is s = inr (j, is, s)

    count_here : (w : List ℕ) → count_of w (pieces f.front) ≡ 0
    count_here w = none_before f.front f.after f.token f.in_line (omega (arith, f.place)) w

    not_bad : k ≡ texts.Syntax → f.token.piece ≡ bad → ⊥
    not_bad is b =
        elim (first.least texts.Token f.token.from (in_text f.front f.after f.token f.in_line texts.Token b)) [
          | inl later ↦ omega (arith, later, f.place)
          | inr same ↦ omega (arith, same.1, ap text_rank is)
        ]

    answered_stands : Answered f.token.piece e n k kind
        → IsOneTooMany (in_query f.above e n) (pieces f.front) f.token.piece kind
        ⊎ IsOfQuery f.above (pieces f.front) f.token.piece (pieces f.after) kind
    answered_stands (a_token is (no_token b t)) = absurd (not_bad is b)
    answered_stands (a_token is (one_executor w full t)) =
        inl (inl (t, w, omega (arith, full, count_here executor_word)))
    answered_stands (a_token is (one_query w full t)) = inl (inr (t, w, omega (arith, full, count_here query_word)))
    answered_stands (a_token is (cant_come t b x q)) =
        plain texts.Syntax t (subst (λ (j : TextKind).
        Stands f.above (pieces f.front) f.token.piece (pieces f.after) j) is f.stands)
    answered_stands (as_it_is other t) = plain k t f.stands

    stands : StandsInLine (in_query f.above e n) f.line kind place
    stands = record {
      front = f.front;
      token = f.token;
      after = f.after;
      in_line = f.in_line;
      place = f.place;
      stands = stands_query f.above e n f.line own.1 kind (pieces f.front) f.token.piece (pieces f.after)
          (answered_stands way);
    }

    -- tokens at one place are one
    same_token : (front after : List PlainToken) (t : PlainToken) → f.line.tokens ≡ front ++ t ∷ after → place ≡ t.from
        → t ≡ f.token
    same_token front after t split at_place =
        sym (token-again bytes f.line.start f.line.tokens front after t here.2 split)
        ∙ ap (token_at bytes) (sym at_place ∙ f.place)
        ∙ token-again bytes f.line.start f.line.tokens f.front f.after f.token here.2 f.in_line

    -- a word that comes once too often, at the place of the fault
    executor_here : Answered f.token.piece e n k kind → f.token.piece ≡ word executor_word → e ≡ 64 → text_rank k ≤ 4
        → rank kind ≤ 1
    executor_here (a_token is (no_token b t)) w full le = absurd (let no : bad ≡ word executor_word = sym b ∙ w in cc)
    executor_here (a_token is (one_executor x f t)) w full le = omega (arith, ap rank t)
    executor_here (a_token is (one_query x f t)) w full le =
        absurd (executor_not_query (let same : word executor_word ≡ word query_word = sym w ∙ x in cc))
    executor_here (a_token is (cant_come t b x q)) w full le = absurd (x w full)
    executor_here (as_it_is other t) w full le =
        absurd (other (word_first f.above (pieces f.front) (pieces f.after) executor_word k
        (subst (λ (p : Piece). Stands f.above (pieces f.front) p (pieces f.after) k) w f.stands) le))

    query_here : Answered f.token.piece e n k kind → f.token.piece ≡ word query_word → n ≡ 100000 → text_rank k ≤ 4
        → rank kind ≤ 2
    query_here (a_token is (no_token b t)) w full le = absurd (let no : bad ≡ word query_word = sym b ∙ w in cc)
    query_here (a_token is (one_executor x f t)) w full le = omega (arith, ap rank t)
    query_here (a_token is (one_query x f t)) w full le = omega (arith, ap rank t)
    query_here (a_token is (cant_come t b x q)) w full le = absurd (q w full)
    query_here (as_it_is other t) w full le =
        absurd (other (word_first f.above (pieces f.front) (pieces f.after) query_word k
        (subst (λ (p : Piece). Stands f.above (pieces f.front) p (pieces f.after) k) w f.stands) le))

    least : (j : SessionKind) (p : ℕ) → StandsInLine (in_query f.above e n) f.line j p
        → (place < p) ⊎ ((place ≡ p) × (rank kind ≤ rank j))
    least j p s = by_sort (query_stands f.above e n f.line own.1 j p s)
      where
        moved : (w : List ℕ) → s.token.piece ≡ word w → place ≡ p → f.token.piece ≡ word w
        moved w is at_place = ap (λ (t : PlainToken). t.piece)
            (sym (same_token s.front s.after s.token s.in_line (at_place ∙ s.place))) ∙ is

        by_sort : IsOneTooMany (in_query f.above e n) (pieces s.front) s.token.piece j
            ⊎ IsOfQuery f.above (pieces s.front) s.token.piece (pieces s.after) j
            → (place < p) ⊎ ((place ≡ p) × (rank kind ≤ rank j))
        by_sort (inl (inl (is, w, full))) =
            elim (first.least texts.Syntax s.token.from
            (word_in_text s.front s.after s.token executor_word s.in_line w)) [
              | inl later ↦ inl (omega (arith, later, s.place))
              | inr same ↦
                  let at_place : place ≡ p = omega (arith, same.0, s.place) in
                  let none = none_before s.front s.after s.token s.in_line (omega (arith, same.0)) executor_word in
                  inr (
                    at_place,
                    omega (
                      arith,
                      ap rank is,
                      executor_here way (moved executor_word w at_place) (omega (arith, full, none)) same.1,
                    ),
                  )
            ]
        by_sort (inl (inr (is, w, full))) =
            elim (first.least texts.Syntax s.token.from (word_in_text s.front s.after s.token query_word s.in_line w)) [
              | inl later ↦ inl (omega (arith, later, s.place))
              | inr same ↦
                  let at_place : place ≡ p = omega (arith, same.0, s.place) in
                  let none = none_before s.front s.after s.token s.in_line (omega (arith, same.0)) query_word in
                  inr (
                    at_place,
                    omega (
                      arith,
                      ap rank is,
                      query_here way (moved query_word w at_place) (omega (arith, full, none)) same.1,
                    ),
                  )
            ]
        by_sort (inr (i, is, st)) =
            elim (first.least i s.token.from (in_text s.front s.after s.token s.in_line i st)) [
              | inl later ↦ inl (omega (arith, later, s.place))
              | inr same ↦ inr (
                omega (arith, same.0, s.place),
                omega (arith, same.1, answered-rank f.token.piece e n k kind way, ap rank is, rank-kept i),
              )
            ]

    from_start : HasFaultFrom (in_query [] e n) bytes at kind place
    from_start = record {
      lines = f.above ++ f.line ∷ below;
      are = all;
      first = IsFirst-map rank (StandsIn bytes (in_query f.above e n) (f.line ∷ below))
          (StandsIn bytes (in_query [] e n) (f.above ++ f.line ∷ below)) kind place
          (λ j p. (clean_prefix no_word bytes [] f.above (f.line ∷ below) e n clean j p).1)
          (λ j p. (clean_prefix no_word bytes [] f.above (f.line ∷ below) e n clean j p).0)
          (first_here rules ends_last false bytes (in_order false bytes) (in_query f.above e n) f.line.start f.line
          below here kind place stands least);
    }

  -- the first token from the place of the fault
  token_there : token_at bytes place ≡ f.token
  token_there = ap (token_at bytes) f.place ∙ token-again bytes f.line.start f.line.tokens f.front f.after f.token
      here.2 f.in_line

  -- the fault's place is within the text, and a token is read there
  pub fault-within : place ≤ length bytes
  fault-within =
      let w = (in_order false bytes).token_within f.line.start f.line.tokens f.front f.after f.token here.2 f.in_line in
      omega (
        arith,
        w.1,
        f.place,
        here.1,
        prefix_len-le-length is_in_line (drop f.line.start bytes),
        length-drop f.line.start bytes,
      )

  pub fault-from : (token_at bytes place).from ≡ place
  fault-from = ap (λ (t : PlainToken). t.from) token_there ∙ sym f.place

  pub query_fault : HasFaultFrom (in_query [] e n) bytes at
      (query_refusal k (class_of (token_at bytes place).piece) e n) place
  query_fault = from_start (query_refusal k (class_of (token_at bytes place).piece) e n)
      (subst (λ (p : Piece). Answered f.token.piece e n k (query_refusal k (class_of p) e n))
      (sym (ap (λ (t : PlainToken). t.piece) token_there)) (answered k f.token.piece e n))
