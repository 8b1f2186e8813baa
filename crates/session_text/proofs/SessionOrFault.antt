-- Each text spells a session or has a fault.
use Rattle.std.proofs.Common.{◌≡◌, ℕ, ◌+◌, ◌-◌, ◌<◌, ◌≤◌, zero, suc, true, false, List, [], ◌∷◌, length, drop, refl}
use Rattle.std.proofs.Common.{sym, ap, ◌∙◌, arith, inl, inr, ◌⊎◌, cond, length-drop}
use Rattle.std.specs.Prelude.{bytes_eq, sum_by, ◌==◌}
use Rattle.std.proofs.lemmas.Bool.{false≢true}
use Rattle.std.proofs.lemmas.Bool.Decides.{eqb_tells}
use Rattle.std.proofs.lemmas.List.Sums.{sum_by-cons}
use Rattle.lin_model.specs.Conditions.{PlainCondition}
use Rattle.lin_text.specs.declared.fault.SessionKind.{SessionKind}
use Rattle.lin_text.specs.declared.fault.SessionKind.TheVariants as kinds
use Rattle.lin_text.specs.Laws.{SpelledOrFaulty as ConditionSpelledOrFaulty}
use Rattle.lin_text.specs.Lines.{line_from, line_below}
use Rattle.lin_text.specs.Pieces.{Piece, word, line_end}
use Rattle.lin_text.specs.LineLaws.{LinesAreInOrder}
use Rattle.lin_text.specs.Facts.{first_line-bounds}
use Rattle.session_text.specs.Words.{green_word, one_digit, executor_word, query_word, end_word, token_at, second_at}
use Rattle.session_text.specs.Words.{third_at, text_of, IsHeader, IsWordLine, BeginsWith}
use Rattle.session_text.specs.Sessions.{IsQuery, AreQueries, IsExecutor, AreExecutors, IsEnd, body_of, SpellsSession}
use Rattle.session_text.specs.Faults.{Seen, header, executor, ended, HasFault}
use Rattle.session_text.specs.Laws.{SpelledOrFaulty}
use Rattle.session_text.specs.Reading.{HasFaultFrom, part_after}
use Rattle.session_text.specs.Lawful.{TextsAreLawful}
use Rattle.session_text.proofs.WordLemmas.{same_bytes, bytes_eq-is}
use Rattle.session_text.proofs.QueryFaults.{asked}
use Rattle.session_text.proofs.ReadFaults.{query_fault}
use Rattle.session_text.proofs.WordLines.{behind_end, between, between-no_query, between-executor, between-end}
use Rattle.session_text.proofs.WordLines.{Leads-query_line, Leads-asked, Leads-executor, Leads-one, Leads-end}
use Rattle.session_text.proofs.WordLines.{Leads-executors}
use Rattle.session_text.proofs.Wholes.{first_refused, too_many_executors, too_many_queries, no_end, whole_fault}
use Rattle.session_text.proofs.Wholes.{bad_header}
use Rattle.session_text.proofs.Steps.{second_query, second_executor, second_end, cant_begin, IsWordLine-ahead}
use Rattle.session_text.proofs.Steps.{IsQuery-ahead, IsExecutor-ahead}

-- tests

is_this_word : (p : Piece) (w : List ℕ) → (p ≡ word w) ⊎ (p ≡ word w → ⊥)
is_this_word (word x) w =
    elim (bytes_eq x w) as (λ b. bytes_eq x w ≡ b → (word x ≡ word w) ⊎ (word x ≡ word w → ⊥)) [
      | true ↦ λ e. inl (ap word (same_bytes x w e))
      | false ↦ λ e. inr (λ h. false≢true (sym e ∙ bytes_eq-is x w (let same : x ≡ w = cc in same)))
    ] refl
is_this_word _ w = inr (λ h. cc)

is_line_end : (p : Piece) → (p ≡ line_end) ⊎ (p ≡ line_end → ⊥)
is_line_end line_end = inl refl
is_line_end _ = inr (λ h. cc)

is_text : (xs ys : List ℕ) → (xs ≡ ys) ⊎ (xs ≡ ys → ⊥)
is_text xs ys =
    elim (bytes_eq xs ys) as (λ b. bytes_eq xs ys ≡ b → (xs ≡ ys) ⊎ (xs ≡ ys → ⊥)) [
      | true ↦ λ e. inl (same_bytes xs ys e)
      | false ↦ λ e. inr (λ h. false≢true (sym e ∙ bytes_eq-is xs ys h))
    ] refl

is_number : (a b : ℕ) → (a ≡ b) ⊎ (a ≡ b → ⊥)
is_number a b = elim (eqb_tells a b) [ inl h ↦ inl h.1 | inr h ↦ inr h.1 ]

is_header : (bytes : List ℕ) (at : ℕ) → IsHeader bytes at ⊎ (IsHeader bytes at → ⊥)
is_header bytes at =
    elim (is_text (text_of bytes (token_at bytes at)) green_word) [
      | inl green ↦ elim (is_text (text_of bytes (second_at bytes at)) one_digit) [
        | inl one ↦ elim (is_line_end (third_at bytes at).piece) [
          | inl ends ↦ inl (record { green = green; one = one; ends = ends })
          | inr other ↦ inr (λ h. other h.ends)
        ]
        | inr other ↦ inr (λ h. other h.one)
      ]
      | inr other ↦ inr (λ h. other h.green)
    ]

abbrev Faulty : Seen → List ℕ → ℕ → Type 0
Faulty seen bytes at = (kind : SessionKind) × (place : ℕ) × HasFaultFrom seen bytes at kind place

-- a query is read from here, or the first fault stands
abbrev OneQuery : List ℕ → ℕ → ℕ → ℕ → Type 0
OneQuery bytes e n at =
    ((q : PlainCondition) × (stop : ℕ) × IsQuery bytes at q stop × (n ≡ 100000 → ⊥)) ⊎ Faulty (asked e n) bytes at

-- queries, up to the first line that is none
abbrev Queries : List ℕ → ℕ → ℕ → ℕ → Type 0
Queries bytes e n at = ((qs : List PlainCondition) × (stop : ℕ) × AreQueries bytes at qs stop × (n + length qs ≤ 100000)
    × (BeginsWith query_word bytes stop → ⊥)) ⊎ Faulty (asked e n) bytes at

-- an executor with its queries
abbrev OneExecutor : List ℕ → ℕ → ℕ → ℕ → Type 0
OneExecutor bytes e n at = ((qs : List PlainCondition) × (stop : ℕ) × IsExecutor bytes at qs stop × (e ≡ 64 → ⊥)
    × (n + length qs ≤ 100000) × (BeginsWith query_word bytes stop → ⊥)) ⊎ Faulty (between e n) bytes at

-- executors, up to the first line that is none
abbrev Executors : List ℕ → ℕ → ℕ → ℕ → Type 0
Executors bytes e n at = ((es : List (List PlainCondition)) × (stop : ℕ) × AreExecutors bytes at es stop
    × (e + length es ≤ 64) × (n + sum_by length es ≤ 100000) × (BeginsWith executor_word bytes stop → ⊥)
    × (BeginsWith query_word bytes stop → e + length es ≡ 0)) ⊎ Faulty (between e n) bytes at

-- the end line, and what is left

-- what comes above it is no end line
not_ended : (e : ℕ) → part_after e ≡ ended → ⊥
not_ended e h =
    elim (e == 0) as (λ b. cond b header executor ≡ ended → ⊥) [ true ↦ λ k. cc | false ↦ λ k. cc ] h

abbrev AnEnd : List ℕ → ℕ → ℕ → ℕ → Type 0
AnEnd bytes e n at = IsEnd bytes at ⊎ Faulty (between e n) bytes at

-- the lines and tokens of a text are in order
module _ (in_order : LinesAreInOrder) where
  rest_here : (bytes : List ℕ) (e n at : ℕ) → IsWordLine end_word bytes at (line_below bytes (line_from bytes at))
      → AnEnd bytes e n at
  rest_here bytes e n at line =
      let below : ℕ = line_below bytes (line_from bytes at) in
      elim (is_number (line_from bytes below) (length bytes)) [
        | inl whole ↦ inl (record { below = below; line = line; whole = whole })
        | inr some ↦
            let b = first_line-bounds true below (drop below bytes) in
            inr (
              _,
              _,
              (Leads-end in_order bytes (part_after e) e n at below (between-no_query e)
                  (between-end e) line).back _ _ (first_refused in_order bytes (behind_end e n) below (λ ps. refl)
                  (omega (arith, some, b.1, length-drop below bytes)) (λ x. x.may)),
            )
      ]

  end_here : (bytes : List ℕ) (e n at : ℕ) → at ≤ length bytes → (BeginsWith executor_word bytes at → ⊥)
      → (BeginsWith query_word bytes at → e ≡ 0) → AnEnd bytes e n at
  end_here bytes e n at within no_executor no_query =
      elim (is_this_word (token_at bytes (line_from bytes at)).piece end_word) [
        | inl begins ↦ elim (is_line_end (second_at bytes (line_from bytes at)).piece) [
          | inr goes_on ↦ inr (_, _, second_end in_order bytes e n at begins goes_on)
          | inl ends ↦ rest_here bytes e n at (record { begins = begins; ends = ends; next = refl })
        ]
        | inr other ↦ elim (is_number (line_from bytes at) (length bytes)) [
          | inl none ↦ inr (kinds.NoEnd, length bytes, no_end bytes (between e n) at none (not_ended e))
          | inr some ↦
              let b = first_line-bounds true at (drop at bytes) in
              inr (
                _,
                _,
                first_refused in_order bytes (between e n) at (between-no_query e)
                    (omega (arith, some, b.1, length-drop at bytes))
                    (cant_begin e (token_at bytes (line_from bytes at)).piece no_executor no_query other),
              )
        ]
      ]

  -- the whole text

  AreQueries-within : (bytes : List ℕ) (at : ℕ) (qs : List PlainCondition) (stop : ℕ) → at ≤ length bytes
      → AreQueries bytes at qs stop → stop ≤ length bytes
  AreQueries-within bytes at [] stop le are = omega (arith, are, le)
  AreQueries-within bytes at (q ∷ qs) stop le are =
      AreQueries-within bytes are.0 qs stop (IsQuery-ahead in_order bytes at q are.0 are.1).1 are.2

  AreExecutors-within : (bytes : List ℕ) (at : ℕ) (es : List (List PlainCondition)) (stop : ℕ) → at ≤ length bytes
      → AreExecutors bytes at es stop → stop ≤ length bytes
  AreExecutors-within bytes at [] stop le are = omega (arith, are, le)
  AreExecutors-within bytes at (e ∷ es) stop le are =
      AreExecutors-within bytes are.0 es stop (AreQueries-within bytes are.1.below e are.0
      (IsWordLine-ahead executor_word bytes at are.1.below are.1.line).1 are.1.asked) are.2

abbrev Outcome : List ℕ → Type 0
Outcome bytes = ((s : List (List PlainCondition)) × SpellsSession bytes s)
    ⊎ ((kind : SessionKind) × (place : ℕ) × HasFault bytes kind place)

-- the texts of queries are lawful, and each text spells a condition from a place on or has a fault
module _ (laws : TextsAreLawful) (condition_or_fault : ConditionSpelledOrFaulty) where
  one_query_here : (bytes : List ℕ) (e n at : ℕ) → BeginsWith query_word bytes at → OneQuery bytes e n at
  one_query_here bytes e n at begins =
      elim (is_number n 100000) [
        | inl full ↦ inr (
          kinds.TooManyQueries,
          (token_at bytes (line_from bytes at)).from,
          too_many_queries laws.in_order bytes (asked e n) at (λ ps. refl) begins full,
        )
        | inr room ↦ elim (is_line_end (second_at bytes (line_from bytes at)).piece) [
          | inr goes_on ↦ inr (_, _, second_query laws.in_order bytes e n at begins room goes_on)
          | inl ends ↦ behind room (record { begins = begins; ends = ends; next = refl })
        ]
      ]
    where
      behind : (n ≡ 100000 → ⊥) → IsWordLine query_word bytes at (line_below bytes (line_from bytes at))
          → OneQuery bytes e n at
      behind room line =
          let below : ℕ = line_below bytes (line_from bytes at) in
          elim (condition_or_fault false bytes below (omega arith)) [
            | inl s ↦ inl (s.0, s.1, record { below = below; line = line; spelled = s.2 }, room)
            | inr f ↦ inr (
              _,
              f.1,
              (Leads-query_line laws.in_order bytes e n at below room line).back _ f.1
                  (query_fault laws.in_order laws.no_word bytes below f.0 f.1 f.2 e (n + 1)),
            )
          ]

  queries_here : (fuel : ℕ) (bytes : List ℕ) (e n at : ℕ) → n ≤ 100000 → length bytes - at < fuel → Queries bytes e n at
  queries_here zero bytes e n at few less = absurd (omega (arith, less))
  queries_here (suc fuel) bytes e n at few less =
      elim (is_this_word (token_at bytes (line_from bytes at)).piece query_word) [
        | inr other ↦ inl ([], at, refl, omega (arith, few), other)
        | inl begins ↦ elim (one_query_here bytes e n at begins) [
          | inr fault ↦ inr fault
          | inl (q, stop, is, room) ↦
              let ahead = IsQuery-ahead laws.in_order bytes at q stop is in
              elim (queries_here fuel bytes e (n + 1) stop (omega (arith, few, room))
              (omega (arith, less, ahead.0, ahead.1))) [
                | inl more ↦ inl (q ∷ more.0, more.1, (stop, is, more.2), omega (arith, more.3), more.4)
                | inr fault ↦ inr (
                  fault.0,
                  fault.1,
                  (Leads-asked laws bytes e n at stop q room is).back fault.0 fault.1
                      fault.2,
                )
              ]
        ]
      ]

  one_executor_here : (bytes : List ℕ) (e n at : ℕ) → n ≤ 100000 → BeginsWith executor_word bytes at
      → OneExecutor bytes e n at
  one_executor_here bytes e n at few begins =
      elim (is_number e 64) [
        | inl full ↦ inr (
          kinds.TooManyExecutors,
          (token_at bytes (line_from bytes at)).from,
          too_many_executors laws.in_order bytes (between e n) at (between-no_query e) begins full,
        )
        | inr room ↦ elim (is_line_end (second_at bytes (line_from bytes at)).piece) [
          | inr goes_on ↦ inr (_, _, second_executor laws.in_order bytes e n at begins room goes_on)
          | inl ends ↦ behind room (record { begins = begins; ends = ends; next = refl })
        ]
      ]
    where
      behind : (e ≡ 64 → ⊥) → IsWordLine executor_word bytes at (line_below bytes (line_from bytes at))
          → OneExecutor bytes e n at
      behind room line =
          let below : ℕ = line_below bytes (line_from bytes at) in
          elim (queries_here (suc (length bytes)) bytes (e + 1) n below few (omega arith)) [
            | inl s ↦ inl (s.0, s.1, record { below = below; line = line; asked = s.2 }, room, s.3, s.4)
            | inr f ↦ inr (
              f.0,
              f.1,
              (Leads-executor laws.in_order bytes (part_after e) e n at below
                  (between-no_query e) (between-executor e) room line).back f.0 f.1 f.2,
            )
          ]

  executors_here : (fuel : ℕ) (bytes : List ℕ) (e n at : ℕ) → e ≤ 64 → n ≤ 100000
      → (BeginsWith query_word bytes at → e ≡ 0) → length bytes - at < fuel → Executors bytes e n at
  executors_here zero bytes e n at few few_queries no_query less = absurd (omega (arith, less))
  executors_here (suc fuel) bytes e n at few few_queries no_query less =
      elim (is_this_word (token_at bytes (line_from bytes at)).piece executor_word) [
        | inr other ↦ inl (
          [],
          at,
          refl,
          omega (arith, few),
          omega (arith, few_queries),
          other,
          λ q. omega (arith, no_query q),
        )
        | inl begins ↦ elim (one_executor_here bytes e n at few_queries begins) [
          | inr fault ↦ inr fault
          | inl (qs, stop, is, room, asked_few, no_more) ↦
              let ahead = IsExecutor-ahead laws.in_order bytes at qs stop is in
              elim (executors_here fuel bytes (e + 1) (n + length qs) stop (omega (arith, few, room)) asked_few
              (λ q. absurd (no_more q)) (omega (arith, less, ahead.0, ahead.1))) [
                | inl more ↦
                    let sum : sum_by length (qs ∷ more.0)
                    ≡ length qs + sum_by length more.0 = sum_by-cons length qs more.0 in
                    inl (
                      qs ∷ more.0,
                      more.1,
                      (stop, is, more.2),
                      omega (arith, more.3),
                      omega (arith, more.4, sum),
                      more.5,
                      λ q. absurd (let none = more.6 q in omega (arith, none)),
                    )
                | inr fault ↦ inr (
                  fault.0,
                  fault.1,
                  (Leads-one laws bytes e n at stop qs room asked_few is).back
                      fault.0 fault.1 fault.2,
                )
              ]
        ]
      ]

  behind_header : (bytes : List ℕ) → IsHeader bytes (line_from bytes 0) → Outcome bytes
  behind_header bytes header_is =
      elim (executors_here (suc (length bytes)) bytes 0 0 (body_of bytes) (omega arith) (omega arith) (λ q. refl)
      (omega arith)) [
        | inr fault ↦ inr (fault.0, fault.1, whole_fault bytes header_is fault.0 fault.1 fault.2)
        | inl (es, stop, are, few, few_queries, no_executor, no_query) ↦
            elim (end_here laws.in_order bytes (0 + length es) (0 + sum_by length es) stop
            (AreExecutors-within laws.in_order bytes (body_of bytes) es stop
            (omega arith) are) no_executor no_query) [
              | inl is ↦ inl (
                es,
                record {
                  header = header_is;
                  stop = stop;
                  are = are;
                  ended = is;
                  fits = record { few_executors = omega (arith, few); few_queries = omega (arith, few_queries) };
                },
              )
              | inr fault ↦ inr (
                fault.0,
                fault.1,
                whole_fault bytes header_is fault.0 fault.1
                    ((Leads-executors laws bytes 0 0 (body_of bytes) stop es few few_queries are).back fault.0 fault.1
                    fault.2),
              )
            ]
      ]

  pub SpellsSession-or_fault : SpelledOrFaulty
  SpellsSession-or_fault bytes =
      elim (is_header bytes (line_from bytes 0)) [
        | inl is ↦ behind_header bytes is
        | inr other ↦ inr (
          kinds.BadHeader,
          (token_at bytes (line_from bytes 0)).from,
          bad_header laws.in_order bytes other,
        )
      ]
