-- The lines of a query within a session: where they have no fault, and where the first one stands.
use Rattle.std.proofs.Common.{◌≡◌, ℕ, ◌+◌, ◌≤◌, suc, Bool, true, false, cond, not, List, [], ◌∷◌, ◌++◌, length, take}
use Rattle.std.proofs.Common.{drop, Some, None, refl, sym, ap, subst, ◌∙◌, arith, inl, inr, ◌⊎◌, append_assoc}
use Rattle.std.specs.Prelude.{MatchOption}
use Rattle.std.specs.List.{prefix_len}
use Rattle.std.proofs.lemmas.List.{append-nil}
use Rattle.std.proofs.lemmas.List.Sums.{sum_by-cons}
use Rattle.lin_model.specs.Conditions.{PlainCondition}
use Rattle.lin_text.specs.declared.fault.TextKind.{TextKind}
use Rattle.lin_text.specs.declared.fault.TextKind.TheVariants as texts
use Rattle.lin_text.specs.declared.fault.SessionKind.{SessionKind}
use Rattle.lin_text.specs.Lines.{line_from, line_below}
use Rattle.lin_text.specs.Pieces.{Piece, var, word, PlainToken, PlainLine, pieces, AreLines}
use Rattle.lin_text.specs.Faults.{Stands, StandsAt as LinesFault}
use Rattle.lin_text.specs.Kinds.{rank as text_rank, session_rank as rank}
use Rattle.lin_text.specs.Queries.{begins_word, is_of_query, query_lines, start_of, Spells}
use Rattle.lin_text.specs.Laws.{WordsStandInNoLine}
use Rattle.lin_text.specs.Facts.{line_from-end}
use Rattle.lin_text.specs.FirstFaults.{IsFirst}
use Rattle.lin_text.specs.FirstFaultFacts.{IsFirst-map}
use Rattle.session_text.specs.Words.{executor_word, query_word}
use Rattle.session_text.specs.Faults.{Part, executor, query, Seen, is_the_word, count_of, first_word, part_of_word}
use Rattle.session_text.specs.Faults.{seen_below, query_above, IsOneTooMany, CantCome, IsOfQuery}
use Rattle.session_text.specs.Reading.{HasFaultFrom}
use Rattle.session_text.specs.Lawful.{TextsAreLawful}
use Rattle.session_text.proofs.FirstFaults.{StandsIn, StandsInLine, Leads}
use Rattle.session_text.proofs.TokenLemmas.{line_from-again}

pub word_first : (above : List PlainLine) (front after : List Piece) (w : List ℕ) (k : TextKind)
    → Stands above front (word w) after k → text_rank k ≤ 4 → k ≡ texts.Syntax
word_first above front after w texts.TooManyVars s le = absurd (let no_var : word w ≡ var = s.1 in cc)
word_first above front after w texts.TooManyAtoms s le = absurd (cc)
word_first above front after w texts.TooManyTerms s le = absurd (let is : false ≡ true = s.1 in cc)
word_first above front after w texts.Token s le = absurd (cc)
word_first above front after w texts.Syntax s le = refl
word_first above front after w texts.NumberTooLarge s le = absurd (omega arith)
word_first above front after w texts.UnknownName s le = absurd (omega arith)
word_first above front after w texts.NameTwice s le = absurd (omega arith)
word_first above front after w texts.EmptyRange s le = absurd (omega arith)
word_first above front after w texts.NoMemory s le = absurd (omega arith)

-- what no fault of a query's text leaves of a line

abbrev pub IsCleanLine : List PlainLine → PlainLine → Type 0
IsCleanLine above line = (front after : List PlainToken) (t : PlainToken) → line.tokens ≡ front ++ t ∷ after
    → (k : TextKind) → Stands above (pieces front) t.piece (pieces after) k → ⊥

not_the_word : (w : List ℕ) (p : Piece) → ((x : List ℕ) → p ≡ word x → ⊥) → is_the_word w p ≡ false
not_the_word w (word x) h = absurd (h x refl)
not_the_word w _ h = refl

pub count_none : (w : List ℕ) (ts : List PlainToken)
    → ((front after : List PlainToken) (t : PlainToken) → ts ≡ front ++ t ∷ after → (x : List ℕ) → t.piece ≡ word x → ⊥)
    → count_of w (pieces ts) ≡ 0
count_none w [] h = refl
count_none w (t ∷ ts) h =
    let here : is_the_word w t.piece ≡ false = not_the_word w t.piece (h [] ts t refl) in
    let more : count_of w (pieces ts) ≡ 0 = count_none w ts
    (λ front after u e. h (t ∷ front) after u (ap (λ (us : List PlainToken). t ∷ us) e)) in
    sum_by-cons (λ (p : Piece). cond (is_the_word w p) 1 0) t.piece (pieces ts)
    ∙ ap (λ (b : Bool). cond b 1 0 + count_of w (pieces ts)) here
    ∙ (let sum : 0 + count_of w (pieces ts) ≡ 0 = omega (arith, more) in sum)

abbrev pub in_query : List PlainLine → ℕ → ℕ → Seen
in_query above e n = record { part = query above; executors = e; queries = n }

-- what stands at a token of a line of the query
pub query_stands : (above : List PlainLine) (e n : ℕ) (line : PlainLine) → begins_word (pieces line.tokens) ≡ false
    → (k : SessionKind) (p : ℕ) (s : StandsInLine (in_query above e n) line k p)
    → IsOneTooMany (in_query above e n) (pieces s.front) s.token.piece k
    ⊎ IsOfQuery above (pieces s.front) s.token.piece (pieces s.after) k
query_stands above e n line own k p s =
    subst (λ (b : Bool). IsOneTooMany (in_query above e n) (pieces s.front) s.token.piece k
    ⊎ MatchOption (cond b None (Some above)) (CantCome (query above) (pieces s.front) s.token.piece k)
    (λ above. IsOfQuery above (pieces s.front) s.token.piece (pieces s.after) k)) own s.stands

pub stands_query : (above : List PlainLine) (e n : ℕ) (line : PlainLine) → begins_word (pieces line.tokens) ≡ false
    → (k : SessionKind) (front : List Piece) (q : Piece) (more : List Piece)
    → IsOneTooMany (in_query above e n) front q k ⊎ IsOfQuery above front q more k
    → IsOneTooMany (in_query above e n) front q k
    ⊎ MatchOption (query_above (query above) (pieces line.tokens)) (CantCome (query above) front q k)
    (λ above. IsOfQuery above front q more k)
stands_query above e n line own k front q more s =
    subst (λ (b : Bool). IsOneTooMany (in_query above e n) front q k
    ⊎ MatchOption (cond b None (Some above)) (CantCome (query above) front q k)
    (λ above. IsOfQuery above front q more k)) (sym own) s

abbrev pub AreCleanLines : List PlainLine → List PlainLine → Type 0
AreCleanLines above [] = Unit {0}
AreCleanLines above (line ∷ lines) =
    (begins_word (pieces line.tokens) ≡ false) × IsCleanLine above line × AreCleanLines (above ++ line ∷ []) lines

-- no line of a query has a reserved word but `var`
module _ (no_word : WordsStandInNoLine) where
  -- at such a word a syntax fault stands
  pub word_stands : (above : List PlainLine) (front after : List Piece) (w : List ℕ)
      → Stands above front (word w) after texts.Syntax
  word_stands above front after w = no_word front w

  no_words : (above : List PlainLine) (line : PlainLine) → IsCleanLine above line → (w : List ℕ)
      → count_of w (pieces line.tokens) ≡ 0
  no_words above line clean w =
      count_none w line.tokens (λ front after t e x is.
      clean front after t e texts.Syntax (subst
      (λ (p : Piece). Stands above (pieces front) p (pieces after) texts.Syntax) (sym is)
      (word_stands above (pieces front) (pieces after) x)))

  seen_below-query : (above : List PlainLine) (e n : ℕ) (line : PlainLine) → begins_word (pieces line.tokens) ≡ false
      → IsCleanLine above line → seen_below (in_query above e n) line ≡ in_query (above ++ line ∷ []) e n
  seen_below-query above e n line own clean =
      let c : ℕ = count_of executor_word (pieces line.tokens) in
      let d : ℕ = count_of query_word (pieces line.tokens) in
      let none : c ≡ 0 = no_words above line clean executor_word in
      let none' : d ≡ 0 = no_words above line clean query_word in
      let first : seen_below (in_query above e n) line
      ≡ in_query (above ++ line ∷ []) (e + c) (n + d) =
      ap (λ (b : Bool). record {
        part = cond b (part_of_word (first_word (pieces line.tokens)))
            (query (above ++ line ∷ []));
        executors = e + c;
        queries = n + d;
      }) own in
      let second : in_query (above ++ line ∷ []) (e + c) (n + d)
      ≡ in_query (above ++ line ∷ []) e (n + d) =
      ap (λ (m : ℕ). in_query (above ++ line ∷ []) m (n + d)) (omega (arith, none)) in
      let third : in_query (above ++ line ∷ []) e (n + d)
      ≡ in_query (above ++ line ∷ []) e n = ap (λ (m : ℕ). in_query (above ++ line ∷ []) e m)
      (omega (arith, none')) in
      first ∙ second ∙ third

  query_line-clean : (above : List PlainLine) (e n : ℕ) (line : PlainLine) → begins_word (pieces line.tokens) ≡ false
      → IsCleanLine above line → (k : SessionKind) (p : ℕ) → StandsInLine (in_query above e n) line k p → ⊥
  query_line-clean above e n line own clean k p s =
      elim (query_stands above e n line own k p s) [
        | inl many ↦ elim many [
          | inl x ↦ a_word executor_word x.1
          | inr x ↦ a_word query_word x.1
        ]
        | inr of_query ↦ clean s.front s.after s.token s.in_line of_query.0 of_query.2
      ]
    where
      a_word : (w : List ℕ) → s.token.piece ≡ word w → ⊥
      a_word w is = clean s.front s.after s.token s.in_line texts.Syntax
          (subst (λ (q : Piece). Stands above (pieces s.front) q (pieces s.after) texts.Syntax) (sym is)
          (word_stands above (pieces s.front) (pieces s.after) w))

  -- behind clean lines of a query the same faults stand
  pub clean_prefix : (bytes : List ℕ) (above lines rest : List PlainLine) (e n : ℕ) → AreCleanLines above lines
      → (k : SessionKind) (p : ℕ) → (StandsIn bytes (in_query above e n) (lines ++ rest) k p
      → StandsIn bytes (in_query (above ++ lines) e n) rest k p)
      × (StandsIn bytes (in_query (above ++ lines) e n) rest k p
      → StandsIn bytes (in_query above e n) (lines ++ rest) k p)
  clean_prefix bytes above [] rest e n clean k p = (
    λ s. subst (λ (ls : List PlainLine). StandsIn bytes (in_query ls e n) rest k p) (sym (append-nil above)) s,
    λ s. subst (λ (ls : List PlainLine). StandsIn bytes (in_query ls e n) rest k p) (append-nil above) s,
  )
  clean_prefix bytes above (line ∷ lines) rest e n clean k p =
      let more = clean_prefix bytes (above ++ line ∷ []) lines rest e n clean.2 k p in
      let seen : seen_below (in_query above e n) line
      ≡ in_query (above ++ line ∷ []) e n = seen_below-query above e n line clean.0 clean.1 in
      let joined : (above ++ line ∷ []) ++ lines ≡ above ++ (line ∷ lines) = append_assoc above (line ∷ []) lines in (
        λ s. elim s [
          | inl here ↦ absurd (query_line-clean above e n line clean.0 clean.1 k p here)
          | inr below ↦ subst (λ (ls : List PlainLine). StandsIn bytes (in_query ls e n) rest k p) joined
              (more.0 (subst (λ (x : Seen). StandsIn bytes x (lines ++ rest) k p) seen below))
        ],
        λ s. inr (subst (λ (x : Seen). StandsIn bytes x (lines ++ rest) k p) (sym seen)
            (more.1 (subst (λ (ls : List PlainLine). StandsIn bytes (in_query ls e n) rest k p) (sym joined) s))),
      )

-- a query's lines among those of a text

abbrev pub NoWords : List PlainLine → Type 0
NoWords [] = Unit {0}
NoWords (line ∷ lines) = (begins_word (pieces line.tokens) ≡ false) × NoWords lines

abbrev pub StartsWithWord : List PlainLine → Type 0
StartsWithWord [] = Unit {0}
StartsWithWord (line ∷ lines) = begins_word (pieces line.tokens) ≡ true

pub record Cut (lines : List PlainLine) : Type 0 where
  pub own : List PlainLine
  pub rest : List PlainLine
  pub all : lines ≡ own ++ rest
  pub are : query_lines lines ≡ own
  pub left : drop (prefix_len is_of_query lines) lines ≡ rest
  pub no_words : NoWords own
  pub stops : StartsWithWord rest

pub cut : (lines : List PlainLine) → Cut lines
cut [] = record { own = []; rest = []; all = refl; are = refl; left = refl; no_words = tt; stops = tt }
cut (line ∷ lines) =
    let more = cut lines in
    let n : ℕ = prefix_len is_of_query lines in
    let one : 1 + n ≡ suc n = omega arith in
    elim (begins_word (pieces line.tokens)) as (λ b. begins_word (pieces line.tokens) ≡ b → Cut (line ∷ lines)) [
      | true ↦ λ e. record {
        own = [];
        rest = line ∷ lines;
        all = refl;
        are = ap (λ (b : Bool). take (cond (not b) (1 + n) 0) (line ∷ lines)) e;
        left = ap (λ (b : Bool). drop (cond (not b) (1 + n) 0) (line ∷ lines)) e;
        no_words = tt;
        stops = e;
      }
      | false ↦ λ e. record {
        own = line ∷ more.own;
        rest = more.rest;
        all = ap (λ (ls : List PlainLine). line ∷ ls) more.all;
        are = ap (λ (b : Bool). take (cond (not b) (1 + n) 0) (line ∷ lines)) e
            ∙ ap (λ (m : ℕ). take m (line ∷ lines)) one ∙ ap (λ (ls : List PlainLine). line ∷ ls) more.are;
        left = ap (λ (b : Bool). drop (cond (not b) (1 + n) 0) (line ∷ lines)) e
            ∙ ap (λ (m : ℕ). drop m (line ∷ lines)) one ∙ more.left;
        no_words = (e, more.no_words);
        stops = more.stops;
      }
    ] refl

pub are_rest : (bytes : List ℕ) (at : ℕ) (own rest : List PlainLine) → AreLines false bytes at (own ++ rest)
    → AreLines false bytes (start_of bytes rest) rest
are_rest bytes at [] [] are = line_from-end bytes (length bytes) (omega arith)
are_rest bytes at [] (line ∷ lines) are = (
  are.0 ∙ sym (line_from-again bytes at (omega (arith, are.0, are.1))) ∙ ap (line_from bytes) (sym are.0),
  are.1,
  are.2,
  are.3,
)
are_rest bytes at (line ∷ own) rest are = are_rest bytes (line_below bytes line.start) own rest are.3

-- where a word comes next, or nothing, it doesn't matter what the query has said
abbrev pub asked : ℕ → ℕ → Seen
asked e n = record { part = executor; executors = e; queries = n }

-- what stands at a token of a query, by whether its line begins with a word
abbrev InQuery : List PlainLine → ℕ → ℕ → SessionKind → List Piece → Piece → List Piece → Bool → Type 0
InQuery own e n k front q more b = IsOneTooMany (in_query own e n) front q k
    ⊎ MatchOption (cond b None (Some own)) (CantCome (query own) front q k) (λ above. IsOfQuery above front q more k)

same_line : (own : List PlainLine) (e n : ℕ) (line : PlainLine) → begins_word (pieces line.tokens) ≡ true
    → (k : SessionKind) (p : ℕ) → (StandsInLine (in_query own e n) line k p → StandsInLine (asked e n) line k p)
    × (StandsInLine (asked e n) line k p → StandsInLine (in_query own e n) line k p)
same_line own e n line is k p = (
  λ s. record {
    front = s.front;
    token = s.token;
    after = s.after;
    in_line = s.in_line;
    place = s.place;
    stands = to (pieces s.front) s.token.piece (pieces s.after)
        (subst (InQuery own e n k (pieces s.front) s.token.piece (pieces s.after)) is s.stands);
  },
  λ s. record {
    front = s.front;
    token = s.token;
    after = s.after;
    in_line = s.in_line;
    place = s.place;
    stands = subst (InQuery own e n k (pieces s.front) s.token.piece (pieces s.after)) (sym is)
        (from (pieces s.front) s.token.piece (pieces s.after) s.stands);
  },
)
  where
    to : (front : List Piece) (q : Piece) (more : List Piece)
        → IsOneTooMany (in_query own e n) front q k ⊎ CantCome (query own) front q k
        → IsOneTooMany (asked e n) front q k ⊎ CantCome executor front q k
    to front q more (inl x) = inl x
    to front q more (inr (inl x)) = inr (inl x)
    to front q more (inr (inr x)) =
        inr (inr (x.0, λ c. x.1 (record { w = c.w; may = c.may; more = c.more; written = c.written })))

    from : (front : List Piece) (q : Piece) (more : List Piece)
        → IsOneTooMany (asked e n) front q k ⊎ CantCome executor front q k
        → IsOneTooMany (in_query own e n) front q k ⊎ CantCome (query own) front q k
    from front q more (inl x) = inl x
    from front q more (inr (inl x)) = inr (inl x)
    from front q more (inr (inr x)) =
        inr (inr (x.0, λ c. x.1 (record { w = c.w; may = c.may; more = c.more; written = c.written })))

same_below : (own : List PlainLine) (e n : ℕ) (line : PlainLine) → begins_word (pieces line.tokens) ≡ true
    → seen_below (in_query own e n) line ≡ seen_below (asked e n) line
same_below own e n line is =
    let c : ℕ = e + count_of executor_word (pieces line.tokens) in
    let d : ℕ = n + count_of query_word (pieces line.tokens) in
    let w : Part = part_of_word (first_word (pieces line.tokens)) in
    let first : seen_below (in_query own e n) line ≡ record {
      part = w;
      executors = c;
      queries = d;
    } = ap (λ (b : Bool). record {
      part = cond b w (query (own ++ line ∷ []));
      executors = c;
      queries = d;
    }) is in
    let second : seen_below (asked e n) line ≡ record {
      part = w;
      executors = c;
      queries = d;
    } = ap (λ (b : Bool). record { part = cond b w executor; executors = c; queries = d }) is in
    first ∙ sym second

same_part : (bytes : List ℕ) (own rest : List PlainLine) (e n : ℕ) → StartsWithWord rest → (k : SessionKind) (p : ℕ)
    → (StandsIn bytes (in_query own e n) rest k p → StandsIn bytes (asked e n) rest k p)
    × (StandsIn bytes (asked e n) rest k p → StandsIn bytes (in_query own e n) rest k p)
same_part bytes own [] e n stops k p = (
  λ s. ((s.0.0, λ x. cc), s.1),
  λ s. ((s.0.0, λ x. cc), s.1),
)
same_part bytes own (line ∷ lines) e n stops k p =
    let here = same_line own e n line stops k p in
    let seen = same_below own e n line stops in (
      λ s. elim s [ inl x ↦ inl (here.0 x) | inr x ↦ inr (subst (λ (y : Seen). StandsIn bytes y lines k p) seen x) ],
      λ s. elim s [
        | inl x ↦ inl (here.1 x)
        | inr x ↦
            inr (subst (λ (y : Seen). StandsIn bytes y lines k p) (sym seen) x)
      ],
    )

clean_all : (above lines : List PlainLine) → NoWords lines
    → ((k : TextKind) (p : ℕ) → LinesFault (above ++ lines) k p → ⊥) → AreCleanLines above lines
clean_all above [] own none = tt
clean_all above (line ∷ lines) own none = (
  own.0,
  λ front after t e k s. none k t.from (record {
    above = above;
    line = line;
    below = lines;
    front = front;
    token = t;
    after = after;
    in_lines = refl;
    in_line = e;
    place = refl;
    stands = s;
  }),
  clean_all (above ++ line ∷ []) lines own.1
      (λ k p s. none k p (subst (λ (ls : List PlainLine). LinesFault ls k p) (append_assoc above (line ∷ []) lines) s)),
)

-- a query that is spelled has no fault
module _ (laws : TextsAreLawful) (bytes : List ℕ) (at : ℕ) (q : PlainCondition) (stop : ℕ) (e n : ℕ)
    (s : Spells false bytes at q stop) where
  abbrev c : Cut s.lines
  c = cut s.lines

  clean : AreCleanLines [] c.own
  clean = clean_all [] c.own c.no_words (λ k p f.
      laws.no_fault (query_lines s.lines) q k p s.spelled
      (subst (λ (ls : List PlainLine). LinesFault ls k p) (sym c.are) f))

  all : AreLines false bytes at (c.own ++ c.rest)
  all = subst (λ (ls : List PlainLine). AreLines false bytes at ls) c.all s.are

  rest : AreLines false bytes stop c.rest
  rest = subst (λ (m : ℕ). AreLines false bytes m c.rest) (sym (s.ends ∙ ap (start_of bytes) c.left))
      (are_rest bytes at c.own c.rest all)

  to : (k : SessionKind) (p : ℕ) → StandsIn bytes (in_query [] e n) (c.own ++ c.rest) k p
      → StandsIn bytes (asked e n) c.rest k p
  to k p f = (same_part bytes c.own c.rest e n c.stops k p).0
      ((clean_prefix laws.no_word bytes [] c.own c.rest e n clean k p).0 f)

  from : (k : SessionKind) (p : ℕ) → StandsIn bytes (asked e n) c.rest k p
      → StandsIn bytes (in_query [] e n) (c.own ++ c.rest) k p
  from k p f = (clean_prefix laws.no_word bytes [] c.own c.rest e n clean k p).1
      ((same_part bytes c.own c.rest e n c.stops k p).1 f)

  back : (k : SessionKind) (p : ℕ) → HasFaultFrom (asked e n) bytes stop k p
      → HasFaultFrom (in_query [] e n) bytes at k p
  back k p h = record {
    lines = c.own ++ c.rest;
    are = all;
    first = IsFirst-map rank (StandsIn bytes (asked e n) c.rest)
        (StandsIn bytes (in_query [] e n) (c.own ++ c.rest)) k p from to
        (subst (λ (ls : List PlainLine). IsFirst rank (StandsIn bytes (asked e n) ls) k p)
        ((laws.in_order false bytes).lines_once stop h.lines c.rest h.are rest) h.first);
  }

  forth : (k : SessionKind) (p : ℕ) → HasFaultFrom (in_query [] e n) bytes at k p
      → HasFaultFrom (asked e n) bytes stop k p
  forth k p h = record {
    lines = c.rest;
    are = rest;
    first = IsFirst-map rank (StandsIn bytes (in_query [] e n) (c.own ++ c.rest))
        (StandsIn bytes (asked e n) c.rest) k p to from
        (subst (λ (ls : List PlainLine). IsFirst rank (StandsIn bytes (in_query [] e n) ls) k p)
        ((laws.in_order false bytes).lines_once at h.lines (c.own ++ c.rest) h.are all) h.first);
  }

  pub Leads-query : Leads bytes (in_query [] e n) at (asked e n) stop
  Leads-query = record { back = back; forth = forth }
