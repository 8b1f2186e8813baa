-- Each text spells a condition or has a fault.
use Rattle.std.proofs.Common.{◌≡◌, ℕ, ◌+◌, ◌-◌, ◌<◌, ◌≤◌, zero, suc, Bool, true, false, cond, nat_lt, List, [], ◌∷◌}
use Rattle.std.proofs.Common.{◌++◌, length, drop, refl, sym, ap, subst, ◌∙◌, append_assoc, arith, inl, inr, ◌⊎◌}
use Rattle.std.specs.Prelude.{Ok, Err, count_by}
use Rattle.std.proofs.lemmas.Bool.{false≢true}
use Rattle.std.proofs.lemmas.Bool.Decides.{eqb_tells}
use Rattle.std.proofs.lemmas.List.{append-nil, length-drop}
use borrow.Author.Tests.{ltb-true, ltb-false}
use Rattle.lin_model.specs.Conditions.{PlainCondition, Fits}
use Rattle.lin_text.specs.declared.fault.TextKind.{TextKind}
use Rattle.lin_text.specs.declared.fault.TextKind.TheVariants as kinds
use Rattle.lin_text.specs.declared.refusal.ReadError.TheVariants as errors
use Rattle.lin_text.specs.Faults.{begins_variable, begins_comparison}
use Rattle.lin_text.specs.Laws.{SpelledOrFaulty}
use Rattle.lin_text.specs.Lines.{line_from, line_below}
use Rattle.lin_text.specs.Pieces.{Piece, var, PlainToken, PlainLine, pieces}
use Rattle.lin_text.specs.Queries.{Spells, HasFault}
use Rattle.lin_text.specs.Reading.{Read, lexeme_at, is_word_class, line_at}
use Rattle.lin_text.specs.Facts.{first_line-bounds}
use Rattle.lin_text.proofs.QueryLines.{IsClean}
use Rattle.lin_text.proofs.LinesRead.{AreClean, count-push, ReadTo, read_none}
use Rattle.lin_text.proofs.QueryEnds.{in_range, spelled_at_end}
use Rattle.lin_text.proofs.FirstFault.{clean_stands}
use Rattle.lin_text.proofs.QueryReads.{at_line, at_word, at_error}

is_var : (r : Piece) (rs : List Piece) → begins_variable (r ∷ rs) ≡ true → r ≡ var
is_var var rs e = refl
is_var _ rs e = absurd (false≢true e)

no_65th_variable : (above : List PlainLine) (line : PlainLine) → IsClean above line.tokens
    → count_by (λ l. begins_variable (pieces l.tokens)) above ≡ 64 → begins_variable (pieces line.tokens) ≡ true → ⊥
no_65th_variable above line clean full e = go line.tokens clean e
  where
    go : (ts : List PlainToken) → IsClean above ts → begins_variable (pieces ts) ≡ true → ⊥
    go [] c b = false≢true b
    go (t ∷ ts) c b =
        clean_stands above (t ∷ ts) [] ts t c refl kinds.TooManyVars (refl, is_var t.piece (pieces ts) b, full)

no_257th_atom : (above : List PlainLine) (line : PlainLine) → IsClean above line.tokens
    → count_by (λ l. begins_comparison (pieces l.tokens)) above ≡ 256 → begins_comparison (pieces line.tokens) ≡ true
    → ⊥
no_257th_atom above line clean full e = go line.tokens clean e
  where
    go : (ts : List PlainToken) → IsClean above ts → begins_comparison (pieces ts) ≡ true → ⊥
    go [] c b = false≢true b
    go (t ∷ ts) c b = clean_stands above (t ∷ ts) [] ts t c refl kinds.TooManyAtoms (refl, b, full)

-- no more lines of a sort than may be
counted : (test : PlainLine → Bool) (most : ℕ) (above : List PlainLine) (line : PlainLine) → count_by test above ≤ most
    → (count_by test above ≡ most → test line ≡ true → ⊥) → count_by test (above ++ line ∷ []) ≤ most
counted test most above line le refuse =
    elim (test line) as (λ b. test line ≡ b → count_by test (above ++ line ∷ []) ≤ most) [
      | true ↦ λ e.
          let more : count_by test (above ++ line ∷ []) ≡ count_by test above + 1 = count-push test above line
          ∙ ap (λ (b : Bool). count_by test above + cond b 1 0) e in
          elim (eqb_tells (count_by test above) most) [
            | inl is ↦ absurd (refuse is.1 e)
            | inr not_full ↦ omega (arith, more, le, not_full.1)
          ]
      | false ↦ λ e.
          let same : count_by test (above ++ line ∷ []) ≡ count_by test above + 0 = count-push test above line
          ∙ ap (λ (b : Bool). count_by test above + cond b 1 0) e in
          omega (arith, same, le)
    ] refl

few : (test : PlainLine → Bool) (most : ℕ) (above lines : List PlainLine)
    → ((front : List PlainLine) (line : PlainLine) → IsClean front line.tokens → count_by test front ≡ most
    → test line ≡ true → ⊥) → AreClean above lines → count_by test above ≤ most → count_by test (above ++ lines) ≤ most
few test most above [] refuse clean le =
    subst (λ (ls : List PlainLine). count_by test ls ≤ most) (sym (append-nil above)) le
few test most above (line ∷ lines) refuse clean le =
    subst (λ (ls : List PlainLine). count_by test ls ≤ most) (append_assoc above (line ∷ []) lines)
    (few test most (above ++ line ∷ []) lines refuse clean.1
    (counted test most above line le (refuse above line clean.0)))

fits : (p : Bool) (bytes : List ℕ) (from at : ℕ) (q : PlainCondition) → ReadTo p bytes from at q → Fits q.vars q.atoms
fits p bytes from at q got = record {
  few_vars = omega (
    arith,
    got.vars,
    few (λ l.
        begins_variable (pieces l.tokens)) 64 [] got.done no_65th_variable got.clean (omega arith),
  );
  few_atoms = omega (
    arith,
    got.atoms,
    few (λ l.
        begins_comparison (pieces l.tokens)) 256 [] got.done no_257th_atom got.clean (omega arith),
  );
  distinct = got.distinct;
  in_range = in_range p bytes from at q got;
}

abbrev Outcome : Bool → List ℕ → ℕ → Type 0
Outcome p bytes from = ((q : PlainCondition) × (end : ℕ) × Spells p bytes from q end)
    ⊎ ((kind : TextKind) × (place : ℕ) × HasFault p bytes from kind place)

-- at a line: it ends the query, or is read, or has the first fault
at_one : (p : Bool) (bytes : List ℕ) (from at : ℕ) (q : PlainCondition) → ReadTo p bytes from at q → at < length bytes
    → ((r : PlainCondition) → ReadTo p bytes from (line_from bytes (line_below bytes at)) r → Outcome p bytes from)
    → (w : Bool) → is_word_class (lexeme_at p bytes at).class ≡ w → (read : Read PlainCondition)
    → line_at p bytes q (lexeme_at p bytes at) ≡ read → Outcome p bytes from
at_one p bytes from at q got lt go true word read e =
    inl (q, at, at_word p bytes from at q got lt (lexeme_at p bytes at) refl word (fits p bytes from at q got))
at_one p bytes from at q got lt go false no_word (Ok r) e =
    go r (at_line p bytes from at q got lt (lexeme_at p bytes at) refl no_word r e)
at_one p bytes from at q got lt go false no_word (Err f) e =
    inr (
      f.kind,
      f.at,
      at_error p bytes from at q got lt (lexeme_at p bytes at) refl {Y = ℕ} (Err (errors.Fault f))
          (errors.Fault f) no_word refl e,
    )

read_on : (n : ℕ) (p : Bool) (bytes : List ℕ) (from at : ℕ) (q : PlainCondition) → ReadTo p bytes from at q
    → at ≤ length bytes → length bytes - at < n → Outcome p bytes from
read_on zero p bytes from at q got le less = absurd (omega (arith, less))
read_on (suc n) p bytes from at q got le less =
    elim (nat_lt at (length bytes)) as (λ b. nat_lt at (length bytes) ≡ b → Outcome p bytes from) [
      | true ↦ λ e.
          let lt : at < length bytes = ltb-true at (length bytes) e in
          let below : ℕ = line_below bytes at in
          let bounds = first_line-bounds true below (drop below bytes) in
          at_one p bytes from at q got lt (λ r more.
          read_on n p bytes from (line_from bytes below) r more (omega (arith, bounds.1, length-drop below bytes))
          (omega (arith, bounds.0))) (is_word_class (lexeme_at p bytes at).class) refl
          (line_at p bytes q (lexeme_at p bytes at)) refl
      | false ↦ λ e. inl (
        q,
        at,
        spelled_at_end p bytes from at q got (fits p bytes from at q got)
            (let ge : length bytes ≤ at = ltb-false at (length bytes) e in omega arith),
      )
    ] refl

pub spelled_or_fault : SpelledOrFaulty
spelled_or_fault p bytes at within =
    let bounds = first_line-bounds true at (drop at bytes) in
    read_on (suc (length bytes)) p bytes at (line_from bytes at) (record { vars = []; atoms = [] })
    (read_none p bytes at) (omega (arith, bounds.1, length-drop at bytes)) (omega arith)
