-- The first fault of a line, behind lines without one, is the first of the query.
use Rattle.std.proofs.Common.{◌≡◌, ℕ, ◌<◌, ◌≤◌, suc, Bool, false, not, List, [], ◌∷◌, ◌++◌, length, drop, refl, sym, ap}
use Rattle.std.proofs.Common.{subst, ◌∙◌, append_assoc, arith, inl, inr, ◌⊎◌, length-append}
use Rattle.std.specs.List.{prefix_len}
use Rattle.std.proofs.lemmas.List.{append-nil, map-append, length-map, append_cancel_left, take-append-drop}
use Rattle.lin_model.specs.Conditions.{PlainCondition}
use Rattle.lin_model.specs.Lists.{parted}
use Rattle.lin_text.specs.declared.fault.TextKind.{TextKind}
use Rattle.lin_text.specs.declared.fault.TextKind.TheVariants as kinds
use Rattle.lin_text.specs.declared.refusal.Fault.{Fault}
use Rattle.lin_text.specs.Lines.{line_below, line_end}
use Rattle.lin_text.specs.Pieces.{Piece, PlainToken, PlainLine, pieces, AreTokens, AreLines}
use Rattle.lin_text.specs.Faults.{Stands, StandsAt, IsFirstFault}
use Rattle.lin_text.specs.Kinds.{rank}
use Rattle.lin_text.specs.Queries.{begins_word, is_of_query, query_lines, HasFault}
use Rattle.lin_text.proofs.Positions.{lines_total, tokens-within, tokens-later, lines-behind}
use Rattle.lin_text.proofs.Passing.{NoFault}
use Rattle.lin_text.proofs.Outcomes.{Passes, Fails}
use Rattle.lin_text.proofs.LinesRead.{AreClean, ReadTo}
use Rattle.lin_text.proofs.QueryEnds.{query-lines}
use Rattle.lin_text.proofs.QueryLines.{NotEmptyLine, IsClean, FailsFirst}

no_fault_at : (above : List PlainLine) (before ps rest xs ys : List Piece) (q : Piece) → Passes above before ps rest
    → ps ≡ xs ++ q ∷ ys → NoFault above (before ++ xs) q (ys ++ rest)
no_fault_at above before [] rest [] ys q h e = absurd (cc)
no_fault_at above before [] rest (x ∷ xs) ys q h e = absurd (cc)
no_fault_at above before (r ∷ ps) rest [] ys q h e =
    let same : r ≡ q = cc in
    let more : ps ≡ ys = cc in
    subst (λ (f : List Piece). NoFault above f q (ys ++ rest)) (sym (append-nil before))
    (subst (λ (zs : List Piece). NoFault above before q (zs ++ rest)) more
    (subst (λ (z : Piece). NoFault above before z (ps ++ rest)) same h.0))
no_fault_at above before (r ∷ ps) rest (x ∷ xs) ys q h e =
    let same : r ≡ x = cc in
    let more : ps ≡ xs ++ q ∷ ys = cc in
    subst (λ (f : List Piece). NoFault above f q (ys ++ rest)) (append_assoc before (r ∷ []) xs
    ∙ ap (λ (z : Piece). before ++ (z ∷ xs)) same)
    (no_fault_at above (before ++ r ∷ []) ps rest xs ys q h.1 more)

is_range : (k : TextKind) → (k ≡ kinds.EmptyRange) ⊎ (k ≡ kinds.EmptyRange → ⊥)
is_range kinds.EmptyRange = inl refl
is_range kinds.TooManyVars = inr (λ e. cc)
is_range kinds.TooManyAtoms = inr (λ e. cc)
is_range kinds.TooManyTerms = inr (λ e. cc)
is_range kinds.Token = inr (λ e. cc)
is_range kinds.Syntax = inr (λ e. cc)
is_range kinds.NumberTooLarge = inr (λ e. cc)
is_range kinds.UnknownName = inr (λ e. cc)
is_range kinds.NameTwice = inr (λ e. cc)
is_range kinds.NoMemory = inr (λ e. cc)

pieces-split : (front after : List PlainToken) (t : PlainToken)
    → pieces (front ++ t ∷ after) ≡ pieces front ++ t.piece ∷ pieces after
pieces-split front after t = map-append (λ (u : PlainToken). u.piece) front (t ∷ after)

-- an empty range would stand there
range_stands : (above : List PlainLine) (ts front after : List PlainToken) (t : PlainToken) → ts ≡ front ++ t ∷ after
    → NotEmptyLine (pieces ts) → Stands above (pieces front) t.piece (pieces after) kinds.EmptyRange → ⊥
range_stands above ts front after t e none h =
    none h.0 (t.piece ∷ pieces after) (ap pieces e ∙ pieces-split front after t
    ∙ ap (λ (ps : List Piece). ps ++ t.piece ∷ pieces after) h.1) h.2

-- no fault stands in a clean line
pub clean_stands : (above : List PlainLine) (ts front after : List PlainToken) (t : PlainToken) → IsClean above ts
    → ts ≡ front ++ t ∷ after → (k : TextKind) → Stands above (pieces front) t.piece (pieces after) k → ⊥
clean_stands above ts front after t clean e k h =
    elim (is_range k) [
      | inl is ↦ range_stands above ts front after t e clean.not_empty
          (subst (λ (j : TextKind). Stands above (pieces front) t.piece (pieces after) j) is h)
      | inr other ↦ no_fault_at above [] (pieces ts) [] (pieces front) (pieces after) t.piece clean.passes (ap pieces e
          ∙ pieces-split front after t) k other (subst (λ (ps : List Piece). Stands above (pieces front) t.piece ps k)
          (sym (append-nil (pieces after))) h)
    ]

clean_line : (above lines front back : List PlainLine) (line : PlainLine) → AreClean above lines
    → lines ≡ front ++ line ∷ back → IsClean (above ++ front) line.tokens
clean_line above [] [] back line h e = absurd (cc)
clean_line above [] (f ∷ front) back line h e = absurd (cc)
clean_line above (l ∷ lines) [] back line h e =
    let same : l ≡ line = cc in
    subst (λ (ls : List PlainLine). IsClean ls line.tokens) (sym (append-nil above))
    (subst (λ (m : PlainLine). IsClean above m.tokens) same h.0)
clean_line above (l ∷ lines) (f ∷ front) back line h e =
    let same : l ≡ f = cc in
    let more : lines ≡ front ++ line ∷ back = cc in
    subst (λ (ls : List PlainLine). IsClean ls line.tokens) (append_assoc above (l ∷ []) front
    ∙ ap (λ (m : PlainLine). above ++ (m ∷ front)) same)
    (clean_line (above ++ l ∷ []) lines front back line h.1 more)

-- no fault stands before the first one of the line
before_first : (above : List PlainLine) (ts front mid : List PlainToken) (f : Fault TextKind)
    (fails : FailsFirst above ts f)
    (t : PlainToken) → fails.fails.used ≡ front ++ t ∷ mid → (after : List PlainToken) → ts ≡ front ++ t ∷ after
    → (k : TextKind) → Stands above (pieces front) t.piece (pieces after) k → ⊥
before_first above ts front mid f fails t is after e k h =
    let g = fails.fails in
    let after_is : after ≡ mid ++ g.token ∷ g.after =
    append_cancel_left (front ++ t ∷ []) after (mid ++ g.token ∷ g.after)
    (append_assoc front (t ∷ []) after ∙ sym e ∙ g.split ∙ ap (λ (us : List PlainToken). us ++ g.token ∷ g.after) is
    ∙ append_assoc front (t ∷ mid) (g.token ∷ g.after)
    ∙ sym (append_assoc front (t ∷ []) (mid ++ g.token ∷ g.after))) in
    elim (is_range k) [
      | inl r ↦ elim fails.not_empty [
        | inl none ↦ range_stands above ts front after t e none
            (subst (λ (j : TextKind). Stands above (pieces front) t.piece (pieces after) j) r h)
        | inr few ↦
            let s = subst (λ (j : TextKind). Stands above (pieces front) t.piece (pieces after) j) r h in
            let two : length front ≡ 2 = sym (length-map front (λ (u : PlainToken). u.piece)) ∙ ap length s.1 in
            absurd (omega (arith, few, ap length is, length-append front (t ∷ mid)))
      ]
      | inr other ↦
          no_fault_at above [] (pieces g.used) (g.token.piece ∷ pieces g.after) (pieces front)
          (pieces mid) t.piece g.passes (ap pieces is ∙ pieces-split front mid t) k other
          (subst (λ (ps : List Piece). Stands above (pieces front) t.piece ps k) (ap pieces after_is
          ∙ pieces-split mid g.after g.token) h)
    ]

-- the first fault of a line behind clean ones is the first of the query
module _ (p : Bool) (bytes : List ℕ) (at : ℕ) (done : List PlainLine) (clean : AreClean [] done) (ts : List PlainToken)
    (lt : at < length bytes) (are : AreTokens p bytes at ts) (f : Fault TextKind) (fails : FailsFirst done ts f)
    (rest : List PlainLine) (more : AreLines p bytes (line_below bytes at) rest) where
  abbrev line : PlainLine
  line = record { start = at; tokens = ts }

  abbrev all : List PlainLine
  all = done ++ line ∷ query_lines rest

  abbrev g : Fails done [] ts f
  g = fails.fails

  stands : StandsAt all f.kind f.at
  stands = record {
    above = done;
    line = line;
    below = query_lines rest;
    front = g.used;
    token = g.token;
    after = g.after;
    in_lines = refl;
    in_line = g.split;
    place = g.at;
    stands = g.first.stands;
  }

  -- the fault lies within its line
  fault_within : f.at ≤ line_end bytes at
  fault_within = let w = tokens-within p bytes at ts g.used g.after g.token are g.split in omega (arith, w.1, g.at)

  -- a token of a line below lies behind the fault
  behind : (back mid : List PlainLine) (m : PlainLine) → query_lines rest ≡ mid ++ m ∷ back
      → (front after : List PlainToken) (t : PlainToken) → m.tokens ≡ front ++ t ∷ after → f.at < t.from
  behind back mid m is front after t e =
      let whole : rest ≡ mid ++ m ∷ (back ++ drop (prefix_len is_of_query rest) rest) =
      sym (take-append-drop (prefix_len is_of_query rest) rest)
      ∙ ap (λ (ls : List PlainLine). ls ++ drop (prefix_len is_of_query rest) rest) is
      ∙ append_assoc mid (m ∷ back) (drop (prefix_len is_of_query rest) rest) in
      let l = lines-behind p bytes (line_below bytes at) rest mid
      (back ++ drop (prefix_len is_of_query rest) rest) m more whole in
      let w = tokens-within p bytes m.start m.tokens front after t l.2 e in
      omega (arith, fault_within, l.0, l.1, w.0)

  least_in_line : (k : TextKind) (front after : List PlainToken) (t : PlainToken) → ts ≡ front ++ t ∷ after
      → Stands done (pieces front) t.piece (pieces after) k
      → (f.at < t.from) ⊎ ((f.at ≡ t.from) × (rank f.kind ≤ rank k))
  least_in_line k front after t e h =
      elim (parted g.used g.after g.token front after t (sym g.split ∙ e)) [
        | inl later ↦
            let there : ts ≡ g.used ++ g.token ∷ (later.0 ++ t ∷ after) = g.split
            ∙ ap (λ (us : List PlainToken). g.used ++ g.token ∷ us) later.2 in
            inl (let lt' = tokens-later p bytes at ts g.used later.0 after g.token t are there in
            omega (arith, lt', g.at))
        | inr other ↦ elim other [
          | inl same ↦
              inr (
                g.at ∙ ap (λ (u : PlainToken). u.from) same.1,
                g.first.least k (subst (λ (us : List PlainToken).
                    Stands done (pieces us) g.token.piece (pieces g.after) k) (sym same.0)
                    (subst (λ (u : PlainToken). Stands done (pieces front) u.piece (pieces g.after) k) (sym same.1)
                    (subst (λ (us : List PlainToken). Stands done (pieces front) t.piece (pieces us) k)
                    (sym same.2) h))),
              )
          | inr earlier ↦ absurd (before_first done ts front earlier.0 f fails t earlier.1 after e k h)
        ]
      ]

  least_of : (k : TextKind) (place : ℕ) → StandsAt all k place
      → (f.at < place) ⊎ ((f.at ≡ place) × (rank f.kind ≤ rank k))
  least_of k place s =
      subst (λ (n : ℕ). (f.at < n) ⊎ ((f.at ≡ n) × (rank f.kind ≤ rank k))) (sym s.place)
      (elim (parted done (query_lines rest) line s.above s.below s.line s.in_lines) [
        | inl later ↦ inl (behind s.below later.0 s.line later.2 s.front s.after s.token s.in_line)
        | inr other ↦ elim other [
          | inl same ↦
              least_in_line k s.front s.after s.token (ap (λ (l : PlainLine). l.tokens) same.1 ∙ s.in_line)
              (subst (λ (ls : List PlainLine). Stands ls (pieces s.front) s.token.piece (pieces s.after) k)
              (sym same.0) s.stands)
          | inr earlier ↦
              absurd (clean_stands s.above s.line.tokens s.front s.after s.token
              (clean_line [] done s.above earlier.0 s.line clean earlier.1) s.in_line k s.stands)
        ]
      ])

  pub first_fault : IsFirstFault all f.kind f.at
  first_fault = record { stands = stands; least = least_of }

pub faulty : (p : Bool) (bytes : List ℕ) (from at : ℕ) (q : PlainCondition) (ts : List PlainToken) (f : Fault TextKind)
    → (got : ReadTo p bytes from at q) → at < length bytes → AreTokens p bytes at ts → begins_word (pieces ts) ≡ false
    → FailsFirst got.done ts f → HasFault p bytes from f.kind f.at
faulty p bytes from at q ts f got lt are no_word fails =
    let more = lines_total (suc (length bytes)) p bytes (line_below bytes at) (omega arith) (omega arith) in
    let line : PlainLine = record { start = at; tokens = ts } in
    let lines : query_lines (got.done ++ line ∷ more.0) ≡ got.done ++ line ∷ query_lines more.0 =
    query-lines got.done (line ∷ more.0) got.of_query
    ∙ ap (λ (ls : List PlainLine). got.done ++ ls) (query-lines (line ∷ []) more.0 (ap not no_word, tt)) in
    record {
      lines = got.done ++ line ∷ more.0;
      are = got.lines (line ∷ more.0) (refl, lt, are, more.1);
      first = subst (λ (ls : List PlainLine). IsFirstFault ls f.kind f.at) (sym lines)
          (first_fault p bytes at got.done got.clean ts lt are f fails more.0 more.1);
    }
