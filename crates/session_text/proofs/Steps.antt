-- The steps of the reader: a fault that is handed on, and one that is found.
use Rattle.std.proofs.Common.{◌≡◌, ℕ, ◌+◌, ◌<◌, ◌≤◌, Bool, true, false, cond, List, [], ◌∷◌, ◌++◌, length, drop, refl}
use Rattle.std.proofs.Common.{sym, ap, subst, ◌∙◌, arith, inl, inr, ◌⊎◌}
use Rattle.std.specs.Prelude.{Result, Ok, Err, IfErr, IsErrAnd, sum_by}
use Rattle.std.proofs.lemmas.Bool.Decides.{eqb_tells}
use Rattle.lin_model.specs.Conditions.{PlainCondition}
use Rattle.lin_text.specs.declared.fault.SessionKind.{SessionKind}
use Rattle.lin_text.specs.Lines.{line_from}
use Rattle.lin_text.specs.Pieces.{Piece, word, line_end, PlainLine, AreLines}
use Rattle.lin_text.specs.Queries.{Spells, start_of}
use Rattle.lin_text.specs.LineLaws.{LinesAreInOrder}
use Rattle.lin_text.specs.Facts.{first_line-bounds}
use Rattle.lin_text.specs.declared.refusal.Fault.{Fault}
use Rattle.lin_text.specs.declared.refusal.ReadError.{ReadError}
use Rattle.lin_text.specs.declared.refusal.ReadError.TheVariants as errors
use Rattle.session_text.specs.Words.{executor_word, query_word, end_word, token_at, second_at, IsHeader, IsWordLine}
use Rattle.session_text.specs.Sessions.{IsQuery, AreQueries, IsExecutor, AreExecutors, body_of}
use Rattle.session_text.specs.Classes.{class_of, refusal_kind}
use Rattle.session_text.specs.Faults.{Seen, header, executor, nothing_seen, MayBegin, CanCome}
use Rattle.session_text.specs.declared.refusal.Counts.{Counts}
use Rattle.session_text.specs.Reading.{HasFaultFrom, IsFaultFrom, IsReadError, IsSessionError, seen_with, part_after}
use Rattle.session_text.proofs.WordLemmas.{executor_not_query, executor_not_end, query_not_end}
use Rattle.session_text.proofs.FirstFaults.{Leads}
use Rattle.session_text.proofs.QueryFaults.{asked, Cut, cut}
use Rattle.session_text.proofs.WordLines.{between, between-no_query, between-executor, between-end, begins_before_end}
use Rattle.session_text.proofs.Wholes.{second_refused, whole_fault}

pub IsReadError-back : (bytes : List ℕ) (s t : Seen) (at to : ℕ) (e : ReadError SessionKind) → Leads bytes s at t to
    → IsReadError t bytes to e → IsReadError s bytes at e
IsReadError-back bytes s t at to errors.NoMemory l h = tt
IsReadError-back bytes s t at to (errors.Fault f) l h = l.back f.kind f.at h

-- a fault of the text from a later place, between which and the first none stands
pub handed_on : {X : Type 0} (r : Result X (ReadError SessionKind)) (bytes : List ℕ) (s t : Seen) (at to : ℕ)
    → Leads bytes s at t to
    → IfErr r (IsReadError t bytes to) → IfErr r (IsReadError s bytes at)
handed_on (Ok x) bytes s t at to l h = tt
handed_on (Err e) bytes s t at to l h = IsReadError-back bytes s t at to e l h

-- the same through a `?`
pub handed_up : {X : Type 0} (r : Result X (ReadError SessionKind)) (e : ReadError SessionKind) (bytes : List ℕ)
    (s : Seen) (at : ℕ)
    → IsErrAnd r (λ x. x ≡ e) → IsReadError s bytes at e → IfErr r (IsReadError s bytes at)
handed_up (Ok x) e bytes s at is h = tt
handed_up (Err x) e bytes s at is h = subst (λ (y : ReadError SessionKind). IsReadError s bytes at y) (sym is) h

-- a fault that was found
pub fault_is : (f : Fault SessionKind) (bytes : List ℕ) (s : Seen) (at : ℕ) (kind : SessionKind) (place : ℕ)
    → f.kind ≡ kind
    → f.at ≡ place → HasFaultFrom s bytes at kind place → HasFaultFrom s bytes at f.kind f.at
fault_is f bytes s at kind place k p h = subst (λ (j : SessionKind). HasFaultFrom s bytes at j f.at) (sym k)
    (subst (λ (m : ℕ). HasFaultFrom s bytes at kind m) (sym p) h)

-- what was read, with one more

pub AreQueries-push : (bytes : List ℕ) (at mid stop : ℕ) (qs : List PlainCondition) (q : PlainCondition)
    → AreQueries bytes at qs mid → IsQuery bytes mid q stop → AreQueries bytes at (qs ++ q ∷ []) stop
AreQueries-push bytes at mid stop [] q are is = (stop, subst (λ (m : ℕ). IsQuery bytes m q stop) are is, refl)
AreQueries-push bytes at mid stop (r ∷ qs) q are is = (are.0, are.1, AreQueries-push bytes are.0 mid stop qs q are.2 is)

pub AreExecutors-push : (bytes : List ℕ) (at mid stop : ℕ) (es : List (List PlainCondition)) (qs : List PlainCondition)
    → AreExecutors bytes at es mid → IsExecutor bytes mid qs stop → AreExecutors bytes at (es ++ qs ∷ []) stop
AreExecutors-push bytes at mid stop [] qs are is = (stop, subst (λ (m : ℕ). IsExecutor bytes m qs stop) are is, refl)
AreExecutors-push bytes at mid stop (r ∷ es) qs are is =
    (are.0, are.1, AreExecutors-push bytes are.0 mid stop es qs are.2 is)

-- a line of one word ends behind its start
pub IsWordLine-ahead : (w : List ℕ) (bytes : List ℕ) (at below : ℕ) → IsWordLine w bytes at below
    → (at < below) × (below ≤ length bytes)
IsWordLine-ahead w bytes at below is =
    let lt = begins_before_end bytes (line_from bytes at) w is.begins in
    let b = first_line-bounds true at (drop at bytes) in
    (omega (arith, is.next, lt, b.0), omega (arith, is.next))

-- what was counted, as it is seen
pub asked-is : (counts so_far : Counts) (k : ℕ) → so_far.executors ≡ counts.executors
    → so_far.queries ≡ counts.queries + k → asked counts.executors (counts.queries + k) ≡ seen_with executor so_far
asked-is counts so_far k e n =
    ap (λ (m : ℕ). asked m (counts.queries + k)) (sym e) ∙ ap (λ (m : ℕ). asked so_far.executors m) (sym n)

first_is : (p : Piece) (w : List ℕ) (more : List Piece) → word w ∷ line_end ∷ [] ≡ (p ∷ []) ++ more → p ≡ word w
first_is p w more e = cc

pub between-is : (counts : Counts) (es : List (List PlainCondition)) → counts.executors ≡ length es
    → counts.queries ≡ sum_by length es → between (0 + length es) (0 + sum_by length es)
    ≡ seen_with (part_after counts.executors) counts
between-is counts es e n =
    ap (λ (m : ℕ). between m (0 + sum_by length es)) (let same : 0 + length es ≡ counts.executors = omega (arith, e) in
    same)
    ∙ ap (λ (m : ℕ). between counts.executors m) (let same : 0 + sum_by length es ≡ counts.queries = omega (arith, n) in
    same)

-- a line that begins with none of the words that may come
pub cant_begin : (e : ℕ) (p : Piece) → (p ≡ word executor_word → ⊥) → (p ≡ word query_word → e ≡ 0)
    → (p ≡ word end_word → ⊥) → ¬ CanCome (part_after e) (p ∷ [])
cant_begin e p no_executor no_query no_end x =
    elim (eqb_tells e 0) [
      | inl none ↦ at_header (subst (λ (b : Bool). MayBegin (cond b header executor) x.w) none.0 x.may)
      | inr some ↦ at_executor some.1 (subst (λ (b : Bool). MayBegin (cond b header executor) x.w) some.0 x.may)
    ]
  where
    is : p ≡ word x.w
    is = first_is p x.w x.more x.written

    at_header : (x.w ≡ executor_word) ⊎ (x.w ≡ end_word) → ⊥
    at_header (inl w) = no_executor (is ∙ ap word w)
    at_header (inr w) = no_end (is ∙ ap word w)

    at_executor : (e ≡ 0 → ⊥) → (x.w ≡ executor_word) ⊎ (x.w ≡ query_word) ⊎ (x.w ≡ end_word) → ⊥
    at_executor some (inl w) = no_executor (is ∙ ap word w)
    at_executor some (inr (inl w)) = some (no_query (is ∙ ap word w))
    at_executor some (inr (inr w)) = no_end (is ∙ ap word w)

-- a fault that is handed on, where nothing takes memory

pub fault_up : {X : Type 0} (r : Result X (Fault SessionKind)) (f : Fault SessionKind) (bytes : List ℕ) (s : Seen)
    (at : ℕ)
    → IsErrAnd r (λ x. x ≡ f) → IsFaultFrom s bytes at f → IfErr r (IsFaultFrom s bytes at)
fault_up (Ok x) f bytes s at is h = tt
fault_up (Err x) f bytes s at is h = subst (λ (y : Fault SessionKind). IsFaultFrom s bytes at y) (sym is) h

pub fault_on : {X : Type 0} (r : Result X (Fault SessionKind)) (bytes : List ℕ) (s t : Seen) (at to : ℕ)
    → Leads bytes s at t to
    → IfErr r (IsFaultFrom t bytes to) → IfErr r (IsFaultFrom s bytes at)
fault_on (Ok x) bytes s t at to l h = tt
fault_on (Err f) bytes s t at to l h = l.back f.kind f.at h

-- a fault behind the header is one of the whole text
pub whole_error : (bytes : List ℕ) (at : ℕ) (e : ReadError SessionKind) → IsHeader bytes (line_from bytes 0)
    → at ≡ body_of bytes
    → IsReadError nothing_seen bytes at e → IsSessionError bytes e
whole_error bytes at errors.NoMemory header_is is h = tt
whole_error bytes at (errors.Fault f) header_is is h =
    whole_fault bytes header_is f.kind f.at (subst (λ (m : ℕ). HasFaultFrom nothing_seen bytes m f.kind f.at) is h)

pub whole_up : {X : Type 0} (r : Result X (ReadError SessionKind)) (e : ReadError SessionKind) (bytes : List ℕ)
    → IsErrAnd r (λ x. x ≡ e)
    → IsSessionError bytes e → IfErr r (IsSessionError bytes)
whole_up (Ok x) e bytes is h = tt
whole_up (Err x) e bytes is h = subst (λ (y : ReadError SessionKind). IsSessionError bytes y) (sym is) h

-- the lines and tokens of a text are in order
module _ (in_order : LinesAreInOrder) where
  -- what stands behind each of the words on its line

  pub second_query : (bytes : List ℕ) (e n at : ℕ) → (token_at bytes (line_from bytes at)).piece ≡ word query_word
      → (n ≡ 100000 → ⊥) → ((second_at bytes (line_from bytes at)).piece ≡ line_end → ⊥)
      → HasFaultFrom (asked e n) bytes at (refusal_kind (class_of (second_at bytes (line_from bytes at)).piece) e
      (n + 1)) (second_at bytes (line_from bytes at)).from
  unfolding executor_word query_word
  second_query bytes e n at begins few goes_on =
      subst (λ (m : ℕ). HasFaultFrom (asked e n) bytes at
      (refusal_kind (class_of (second_at bytes (line_from bytes at)).piece) m (n + 1))
      (second_at bytes (line_from bytes at)).from) (let same : e + 0 ≡ e = omega arith in same)
      (second_refused in_order bytes (asked e n) at query_word (λ ps. refl) begins
      (record {
        may = inr (inl refl);
        few_executors = λ x full. executor_not_query (sym x);
        few_queries = λ x full. few full;
      }) goes_on)

  pub second_executor : (bytes : List ℕ) (e n at : ℕ) → (token_at bytes (line_from bytes at)).piece ≡ word executor_word
      → (e ≡ 64 → ⊥) → ((second_at bytes (line_from bytes at)).piece ≡ line_end → ⊥)
      → HasFaultFrom (between e n) bytes at (refusal_kind (class_of (second_at bytes (line_from bytes at)).piece)
      (e + 1) n) (second_at bytes (line_from bytes at)).from
  unfolding executor_word query_word
  second_executor bytes e n at begins few goes_on =
      subst (λ (m : ℕ). HasFaultFrom (between e n) bytes at
      (refusal_kind (class_of (second_at bytes (line_from bytes at)).piece) (e + 1) m)
      (second_at bytes (line_from bytes at)).from) (let same : n + 0 ≡ n = omega arith in same)
      (second_refused in_order bytes (between e n) at executor_word (between-no_query e) begins
      (record {
        may = between-executor e;
        few_executors = λ x full. few full;
        few_queries = λ x full. executor_not_query x;
      }) goes_on)

  pub second_end : (bytes : List ℕ) (e n at : ℕ) → (token_at bytes (line_from bytes at)).piece ≡ word end_word
      → ((second_at bytes (line_from bytes at)).piece ≡ line_end → ⊥)
      → HasFaultFrom (between e n) bytes at (refusal_kind (class_of (second_at bytes (line_from bytes at)).piece) e n)
      (second_at bytes (line_from bytes at)).from
  unfolding executor_word query_word end_word
  second_end bytes e n at begins goes_on =
      subst (λ (m : ℕ). HasFaultFrom (between e n) bytes at
      (refusal_kind (class_of (second_at bytes (line_from bytes at)).piece) m n)
      (second_at bytes (line_from bytes at)).from) (let same : e + 0 ≡ e = omega arith in same)
      (subst (λ (m : ℕ). HasFaultFrom (between e n) bytes at
      (refusal_kind (class_of (second_at bytes (line_from bytes at)).piece) (e + 0) m)
      (second_at bytes (line_from bytes at)).from) (let same : n + 0 ≡ n = omega arith in same)
      (second_refused in_order bytes (between e n) at end_word (between-no_query e) begins
      (record {
        may = between-end e;
        few_executors = λ x full. executor_not_end (sym x);
        few_queries = λ x full. query_not_end (sym x);
      }) goes_on))

  -- a query ends behind its start

  pub Spells-ahead : (bytes : List ℕ) (at : ℕ) (q : PlainCondition) (stop : ℕ) → at ≤ length bytes
      → Spells false bytes at q stop → (at ≤ stop) × (stop ≤ length bytes)
  Spells-ahead bytes at q stop le s = by_rest c.rest
      (subst (λ (ls : List PlainLine). AreLines false bytes at ls) c.all s.are) (s.ends ∙ ap (start_of bytes) c.left)
    where
      c : Cut s.lines
      c = cut s.lines

      by_rest : (rest : List PlainLine) → AreLines false bytes at (c.own ++ rest) → stop ≡ start_of bytes rest
          → (at ≤ stop) × (stop ≤ length bytes)
      by_rest [] are is = (omega (arith, is, le), omega (arith, is))
      by_rest (line ∷ lines) are is = let b = (in_order false bytes).line_behind at
          (c.own ++ line ∷ lines) c.own lines line are refl in (omega (arith, is, b.0), omega (arith, is, b.1))

  pub IsQuery-ahead : (bytes : List ℕ) (at : ℕ) (q : PlainCondition) (stop : ℕ) → IsQuery bytes at q stop
      → (at < stop) × (stop ≤ length bytes)
  IsQuery-ahead bytes at q stop is =
      let w = IsWordLine-ahead query_word bytes at is.below is.line in
      let s = Spells-ahead bytes is.below q stop w.1 is.spelled in
      (omega (arith, w.0, s.0), s.1)

  pub AreQueries-ahead : (bytes : List ℕ) (at : ℕ) (qs : List PlainCondition) (stop : ℕ) → AreQueries bytes at qs stop
      → at ≤ stop
  AreQueries-ahead bytes at [] stop are = omega (arith, are)
  AreQueries-ahead bytes at (q ∷ qs) stop are =
      omega (arith, (IsQuery-ahead bytes at q are.0 are.1).0, AreQueries-ahead bytes are.0 qs stop are.2)

  pub IsExecutor-ahead : (bytes : List ℕ) (at : ℕ) (qs : List PlainCondition) (stop : ℕ) → IsExecutor bytes at qs stop
      → (at < stop) × (at < length bytes)
  IsExecutor-ahead bytes at qs stop is =
      let w = IsWordLine-ahead executor_word bytes at is.below is.line in
      (omega (arith, w.0, AreQueries-ahead bytes is.below qs stop is.asked), omega (arith, w.0, w.1))
