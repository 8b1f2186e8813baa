-- The lines of a session's own: where they have no fault, and where one stands at their first or second token.
use Rattle.std.proofs.Common.{◌≡◌, ℕ, ◌+◌, ◌<◌, ◌≤◌, suc, Bool, true, false, cond, nat_lt, List, [], ◌∷◌, ◌++◌, length}
use Rattle.std.proofs.Common.{drop, None, refl, sym, ap, subst, ◌∙◌, arith, inl, inr, ◌⊎◌}
use Rattle.std.specs.Prelude.{sum_by, ◌==◌}
use Rattle.std.proofs.lemmas.List.{at_drop_all}
use Rattle.std.proofs.lemmas.List.Sums.{sum_by-cons}
use Rattle.std.proofs.lemmas.Bool.Decides.{eqb_tells}
use Rattle.std.specs.List.{prefix_len}
use borrow.Author.Tests.{ltb-true, ltb-false}
use Rattle.lin_model.specs.Conditions.{PlainCondition}
use Rattle.lin_text.specs.declared.fault.SessionKind.{SessionKind}
use Rattle.lin_text.specs.Lines.{line_from, line_below, is_blank}
use Rattle.lin_text.specs.Tokens.{token_from, token_here}
use Rattle.lin_text.specs.Pieces.{Piece, word, line_end, PlainToken, PlainLine, plain_token, piece_of, pieces}
use Rattle.lin_text.specs.Pieces.{AreTokens, AreLines}
use Rattle.lin_text.specs.LineLaws.{LinesAreInOrder}
use Rattle.lin_text.specs.FirstFaultFacts.{Leads-refl, Leads-trans, clean_line}
use Rattle.session_text.specs.Words.{executor_word, query_word, end_word, token_at, second_at, IsWordLine}
use Rattle.session_text.specs.Sessions.{IsQuery, AreQueries, IsExecutor, AreExecutors}
use Rattle.session_text.specs.Faults.{Part, header, executor, ended, Seen, count_of, part_of_word, seen_below, MayBegin}
use Rattle.session_text.specs.Faults.{query_above, rules}
use Rattle.session_text.specs.Reading.{part_after}
use Rattle.session_text.specs.Lawful.{TextsAreLawful}
use Rattle.session_text.proofs.FirstFaults.{StandsInLine, Leads}
use Rattle.session_text.proofs.WordLemmas.{executor_not_query, executor_not_end, query_not_end}
use Rattle.session_text.proofs.TokenLemmas.{two_tokens}
use Rattle.session_text.proofs.LineFaults.{OwnStands, own_stands}
use Rattle.session_text.proofs.QueryFaults.{in_query, asked, Leads-query}

-- at the end of the input nothing is left
pub token_at-end : (bytes : List ℕ) (at : ℕ) → length bytes ≤ at → (token_at bytes at).piece ≡ line_end
unfolding token_from token_here plain_token piece_of
token_at-end bytes at le =
    let none : prefix_len is_blank (drop at bytes) ≡ 0 = at_drop_all (prefix_len is_blank) bytes at le in
    let same : at + prefix_len is_blank (drop at bytes) ≡ at = omega (arith, none) in
    ap (λ (m : ℕ). (plain_token false bytes (token_here m (drop m bytes))).piece) same
    ∙ at_drop_all (λ xs. (plain_token false bytes (token_here at xs)).piece) bytes at le

pub begins_before_end : (bytes : List ℕ) (at : ℕ) (w : List ℕ) → (token_at bytes at).piece ≡ word w → at < length bytes
begins_before_end bytes at w is =
    elim (nat_lt at (length bytes)) as (λ b. nat_lt at (length bytes) ≡ b → at < length bytes) [
      | true ↦ λ e. ltb-true at (length bytes) e
      | false ↦ λ e. absurd (let no_word : word w ≡ line_end = sym is
          ∙ token_at-end bytes at (ltb-false at (length bytes) e) in cc)
    ] refl

-- no line of such a part belongs to a query
abbrev pub IsNoQuery : Part → Type 0
IsNoQuery part = (ps : List Piece) → query_above part ps ≡ None

-- the lines from a place on, the first of which begins before the end
pub record Lines (bytes : List ℕ) (at : ℕ) : Type 0 where
  pub tokens : List PlainToken
  pub lines : List PlainLine
  pub are : AreLines false bytes at (record { start = line_from bytes at; tokens = tokens } ∷ lines)

-- a word that may begin a line, and doesn't come once too often
pub record IsWelcome (seen : Seen) (w : List ℕ) : Type 0 where
  pub may : MayBegin seen.part w
  pub few_executors : w ≡ executor_word → seen.executors ≡ 64 → ⊥
  pub few_queries : w ≡ query_word → seen.queries ≡ 100000 → ⊥

pub welcome_clean : (seen : Seen) (w : List ℕ) → IsWelcome seen w → (k : SessionKind) → OwnStands seen [] (word w) k → ⊥
welcome_clean seen w is k (inl (inl (j, x, full))) =
    is.few_executors (let same : w ≡ executor_word = cc in same) (omega (arith, full))
welcome_clean seen w is k (inl (inr (j, x, full))) =
    is.few_queries (let same : w ≡ query_word = cc in same) (omega (arith, full))
welcome_clean seen w is k (inr (inl (j, b))) = cc
welcome_clean seen w is k (inr (inr (j, cant))) =
    cant (record { w = w; may = is.may; more = line_end ∷ []; written = refl })

end_clean : (seen : Seen) (w : List ℕ) → IsWelcome seen w → (k : SessionKind) → OwnStands seen (word w ∷ []) line_end k
    → ⊥
end_clean seen w is k (inl (inl (j, x, full))) = cc
end_clean seen w is k (inl (inr (j, x, full))) = cc
end_clean seen w is k (inr (inl (j, b))) = cc
end_clean seen w is k (inr (inr (j, cant))) = cant (record { w = w; may = is.may; more = []; written = refl })

two_cases : (t u : PlainToken) (front after : List PlainToken) (v : PlainToken) → t ∷ u ∷ [] ≡ front ++ v ∷ after
    → ((front ≡ []) × (v ≡ t)) ⊎ ((front ≡ t ∷ []) × (v ≡ u))
two_cases t u [] after v e = inl (refl, let same : v ≡ t = cc in same)
two_cases t u (x ∷ []) after v e =
    inr (let same : t ≡ x = cc in ap (λ (y : PlainToken). y ∷ []) (sym same), let same : v ≡ u = cc in same)
two_cases t u (x ∷ y ∷ []) after v e = absurd (cc)
two_cases t u (x ∷ y ∷ z ∷ front) after v e = absurd (cc)

-- below a line of one word
abbrev pub seen_word : Seen → List ℕ → Seen
seen_word seen w = record {
  part = part_of_word w;
  executors = seen.executors + count_of executor_word (word w ∷ line_end ∷ []);
  queries = seen.queries + count_of query_word (word w ∷ line_end ∷ []);
}

-- above an executor line, or the end line
abbrev pub between : ℕ → ℕ → Seen
between e n = record { part = part_after e; executors = e; queries = n }

pub between-no_query : (e : ℕ) → IsNoQuery (part_after e)
between-no_query e ps =
    elim (e == 0) as (λ b. query_above (cond b header executor) ps ≡ None) [ true ↦ refl | false ↦ refl ]

pub between-executor : (e : ℕ) → MayBegin (part_after e) executor_word
between-executor e =
    elim (e == 0) as (λ b. MayBegin (cond b header executor) executor_word) [ true ↦ inl refl | false ↦ inl refl ]

pub between-end : (e : ℕ) → MayBegin (part_after e) end_word
between-end e =
    elim (e == 0) as (λ b. MayBegin (cond b header executor) end_word) [ true ↦ inr refl | false ↦ inr (inr refl) ]

pub between-some : (e n : ℕ) → asked (e + 1) n ≡ between (e + 1) n
between-some e n =
    elim (eqb_tells (e + 1) 0) [
      | inl none ↦ absurd (omega (arith, none.1))
      | inr some ↦ ap (λ (b : Bool). record { part = cond b header executor; executors = e + 1; queries = n })
          (sym some.0)
    ]

-- below the end line
abbrev pub behind_end : ℕ → ℕ → Seen
behind_end e n = record { part = ended; executors = e; queries = n }

-- the lines and tokens of a text are in order
module _ (in_order : LinesAreInOrder) where
  pub lines_there : (bytes : List ℕ) (at : ℕ) → line_from bytes at < length bytes → Lines bytes at
  lines_there bytes at lt =
      let ts = (in_order false bytes).has_tokens (line_from bytes at) (omega arith) in
      let more = (in_order false bytes).has_lines (line_below bytes (line_from bytes at)) (omega arith) in
      record { tokens = ts.0; lines = more.0; are = (refl, lt, ts.1, more.1) }

  pub Leads-word : (bytes : List ℕ) (seen : Seen) (at below : ℕ) (w : List ℕ) → IsNoQuery seen.part
      → IsWordLine w bytes at below → IsWelcome seen w → Leads bytes seen at (seen_word seen w) below
  Leads-word bytes seen at below w own is welcome =
      subst (λ (m : ℕ). Leads bytes seen at (seen_word seen w) m) (sym is.next)
      (subst (λ (s : Seen). Leads bytes seen at s (line_below bytes start)) seen_is
      (clean_line rules false bytes (in_order false bytes) seen at line refl lt are clean))
    where
      start : ℕ
      start = line_from bytes at

      t : PlainToken
      t = token_at bytes start

      u : PlainToken
      u = second_at bytes start

      line : PlainLine
      line = record { start = start; tokens = t ∷ u ∷ [] }

      lt : start < length bytes
      lt = begins_before_end bytes start w is.begins

      are : AreTokens false bytes start (t ∷ u ∷ [])
      are =
          let ts = (in_order false bytes).has_tokens start (omega (arith, lt)) in
          subst (λ (vs : List PlainToken). AreTokens false bytes start vs)
          (two_tokens bytes start w ts.0 ts.1 is.begins is.ends) ts.1

      seen_is : seen_below seen line ≡ seen_word seen w
      seen_is = ap (λ (p : Piece). seen_below seen
          (record { start = start; tokens = record { from = t.from; to = t.to; piece = p } ∷ u ∷ [] })) is.begins
          ∙ ap (λ (p : Piece). seen_below seen (record {
            start = start;
            tokens = record { from = t.from; to = t.to; piece = word w } ∷ record {
              from = u.from;
              to = u.to;
              piece = p;
            } ∷ [];
          })) is.ends

      clean : (k : SessionKind) (p : ℕ) → StandsInLine seen line k p → ⊥
      clean k p s =
          let o = own_stands seen line (own (pieces line.tokens)) k p s in
          elim (two_cases t u s.front s.after s.token s.in_line) [
            | inl first ↦
                welcome_clean seen w welcome k (subst (λ (q : Piece). OwnStands seen [] q k)
                (ap (λ (v : PlainToken). v.piece) first.1 ∙ is.begins)
                (subst (λ (vs : List PlainToken). OwnStands seen (pieces vs) s.token.piece k) first.0 o))
            | inr second ↦
                end_clean seen w welcome k (subst (λ (q : Piece). OwnStands seen (q ∷ []) line_end k) is.begins
                (subst (λ (q : Piece). OwnStands seen (t.piece ∷ []) q k) (ap (λ (v : PlainToken). v.piece) second.1
                ∙ is.ends) (subst (λ (vs : List PlainToken).
                OwnStands seen (pieces vs) s.token.piece k) second.0 o)))
          ]

  -- the three words

  pub Leads-executor : (bytes : List ℕ) (part : Part) (e n at below : ℕ) → IsNoQuery part → MayBegin part executor_word
      → (e ≡ 64 → ⊥) → IsWordLine executor_word bytes at below
      → Leads bytes (record { part = part; executors = e; queries = n }) at (asked (e + 1) n) below
  unfolding executor_word query_word
  Leads-executor bytes part e n at below own may few is =
      subst (λ (m : ℕ). Leads bytes (record { part = part; executors = e; queries = n }) at (asked (e + 1) m) below)
      (let same : n + 0 ≡ n = omega arith in same)
      (Leads-word bytes (record { part = part; executors = e; queries = n }) at below executor_word own is
      (record { may = may; few_executors = λ x full. few full; few_queries = λ x full. executor_not_query x }))

  pub Leads-query_line : (bytes : List ℕ) (e n at below : ℕ) → (n ≡ 100000 → ⊥) → IsWordLine query_word bytes at below
      → Leads bytes (asked e n) at (in_query [] e (n + 1)) below
  unfolding executor_word query_word
  Leads-query_line bytes e n at below few is =
      subst (λ (m : ℕ). Leads bytes (asked e n) at (in_query [] m (n + 1)) below) (let same : e + 0 ≡ e = omega arith in
      same)
      (Leads-word bytes (asked e n) at below query_word (λ ps. refl) is
      (record {
        may = inr (inl refl);
        few_executors = λ x full. executor_not_query (sym x);
        few_queries = λ x full. few full;
      }))

  pub Leads-end : (bytes : List ℕ) (part : Part) (e n at below : ℕ) → IsNoQuery part → MayBegin part end_word
      → IsWordLine end_word bytes at below → Leads bytes (record { part = part; executors = e; queries = n }) at
      (behind_end e n) below
  unfolding executor_word query_word end_word
  Leads-end bytes part e n at below own may is =
      subst (λ (m : ℕ). Leads bytes (record { part = part; executors = e; queries = n }) at (behind_end m n) below)
      (let same : e + 0 ≡ e = omega arith in same)
      (subst (λ (m : ℕ). Leads bytes (record { part = part; executors = e; queries = n }) at
      (behind_end (e + 0) m) below) (let same : n + 0 ≡ n = omega arith in same)
      (Leads-word bytes (record { part = part; executors = e; queries = n }) at below end_word own is
      (record {
        may = may;
        few_executors = λ x full. executor_not_end (sym x);
        few_queries = λ x full. query_not_end (sym x);
      })))

-- the texts of queries are lawful
module _ (laws : TextsAreLawful) where
  -- queries, and executors

  pub Leads-asked : (bytes : List ℕ) (e n at stop : ℕ) (q : PlainCondition) → (n ≡ 100000 → ⊥) → IsQuery bytes at q stop
      → Leads bytes (asked e n) at (asked e (n + 1)) stop
  Leads-asked bytes e n at stop q few is =
      Leads-trans rules false bytes (asked e n) (in_query [] e (n + 1)) (asked e (n + 1)) at is.below stop
      (Leads-query_line laws.in_order bytes e n at is.below few is.line)
      (Leads-query laws bytes is.below q stop e (n + 1) is.spelled)

  pub Leads-queries : (bytes : List ℕ) (e n at stop : ℕ) (qs : List PlainCondition) → n + length qs ≤ 100000
      → AreQueries bytes at qs stop → Leads bytes (asked e n) at (asked e (n + length qs)) stop
  Leads-queries bytes e n at stop [] few are =
      subst (λ (m : ℕ). Leads bytes (asked e n) at (asked e m) stop) (let same : n ≡ n + 0 = omega arith in same)
      (subst (λ (m : ℕ). Leads bytes (asked e n) at (asked e n) m) (sym are)
      (Leads-refl rules false bytes (asked e n) at))
  Leads-queries bytes e n at stop (q ∷ qs) few are =
      subst (λ (m : ℕ). Leads bytes (asked e n) at (asked e m) stop)
      (let same : n + 1 + length qs ≡ n + suc (length qs) = omega arith in same)
      (Leads-trans rules false bytes (asked e n) (asked e (n + 1)) (asked e (n + 1 + length qs)) at are.0 stop
      (Leads-asked bytes e n at are.0 q (λ full. omega (arith, full, few)) are.1)
      (Leads-queries bytes e (n + 1) are.0 stop qs (omega (arith, few)) are.2))

  pub Leads-one : (bytes : List ℕ) (e n at stop : ℕ) (qs : List PlainCondition) → (e ≡ 64 → ⊥) → n + length qs ≤ 100000
      → IsExecutor bytes at qs stop → Leads bytes (between e n) at (between (e + 1) (n + length qs)) stop
  Leads-one bytes e n at stop qs few few_queries is =
      subst (λ (s : Seen). Leads bytes (between e n) at s stop) (between-some e (n + length qs))
      (Leads-trans rules false bytes (between e n) (asked (e + 1) n) (asked (e + 1) (n + length qs)) at is.below stop
      (Leads-executor laws.in_order bytes (part_after e) e n at is.below (between-no_query e)
      (between-executor e) few is.line) (Leads-queries bytes (e + 1) n is.below stop qs few_queries is.asked))

  pub Leads-executors : (bytes : List ℕ) (e n at stop : ℕ) (es : List (List PlainCondition)) → e + length es ≤ 64
      → n + sum_by length es ≤ 100000 → AreExecutors bytes at es stop
      → Leads bytes (between e n) at (between (e + length es) (n + sum_by length es)) stop
  Leads-executors bytes e n at stop [] few few_queries are =
      subst (λ (m : ℕ). Leads bytes (between e n) at (between m (n + 0)) stop) (let same : e ≡ e + 0 = omega arith in
      same)
      (subst (λ (m : ℕ). Leads bytes (between e n) at (between e m) stop) (let same : n ≡ n + 0 = omega arith in same)
      (subst (λ (m : ℕ). Leads bytes (between e n) at (between e n) m) (sym are)
      (Leads-refl rules false bytes (between e n) at)))
  Leads-executors bytes e n at stop (qs ∷ es) few few_queries are =
      let sum : sum_by length (qs ∷ es) ≡ length qs + sum_by length es = sum_by-cons length qs es in
      subst (λ (m : ℕ). Leads bytes (between e n) at (between m (n + sum_by length (qs ∷ es))) stop)
      (let same : e + 1 + length es ≡ e + suc (length es) = omega arith in same)
      (subst (λ (m : ℕ). Leads bytes (between e n) at (between (e + 1 + length es) m) stop)
      (let same : n + length qs + sum_by length es ≡ n + sum_by length (qs ∷ es) = omega (arith, sum) in same)
      (Leads-trans rules false bytes (between e n) (between (e + 1) (n + length qs))
      (between (e + 1 + length es) (n + length qs + sum_by length es)) at are.0 stop
      (Leads-one bytes e n at are.0 qs (λ full. omega (arith, full, few)) (omega (arith, few_queries, sum)) are.1)
      (Leads-executors bytes (e + 1) (n + length qs) are.0 stop es (omega (arith, few))
      (omega (arith, few_queries, sum)) are.2)))
