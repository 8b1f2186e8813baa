-- Each place spells an atom or has a fault, and so does each text; the first fault is one.
use Rattle.std.proofs.Common.{◌≡◌, ℕ, ◌-◌, ◌<◌, ◌≤◌, suc, zero, Bool, true, false, List, [], ◌∷◌, length, drop, refl, sym}
use Rattle.std.proofs.Common.{subst, arith, inl, inr, ◌⊎◌, nat_lt, ℤ, length-drop}
use Rattle.std.specs.Prelude.{Ok, Err}
use borrow.Author.Tests.{ltb-true, ltb-false}
use Rattle.lin_model.specs.KeyAtom.{PlainKeyAtom, IsCanonical}
use Rattle.lin_model.specs.declared.form.FormTerm.{FormTerm}
use Rattle.lin_model.specs.declared.op.Op.{Op}
use Rattle.lin_text.specs.declared.atom_step.State.{State}
use Rattle.lin_text.specs.declared.atom_step.State.TheVariants as states
use Rattle.lin_text.specs.declared.atom_step.Step.{Step}
use Rattle.lin_text.specs.declared.fault.TextKind.{TextKind}
use Rattle.lin_text.specs.declared.fault.TextKind.TheVariants.{Syntax}
use Rattle.lin_text.specs.Lines.{line_from, line_below}
use Rattle.lin_text.specs.Pieces.{line_end, PlainToken, PlainLine, first_token}
use Rattle.lin_text.specs.Kinds.{rank}
use Rattle.lin_text.specs.KindFacts.{rank-strict}
use Rattle.lin_text.specs.Facts.{first_line-bounds}
use Rattle.lin_text.specs.FirstFaults.{StandsIn, IsFirst, HasFaultFrom}
use Rattle.lin_text.specs.FirstFaultFacts.{one_first}
use Rattle.lin_text.specs.Reading.{Read, lexeme_at, refusal, end_at}
use Rattle.lin_text.specs.KeyAtomTexts.{SpellsAtom, StandsAmong, HasAtomFault, atom_rules, IsAtomText}
use Rattle.lin_text.specs.KeyAtomLaws.{AtomSpelledOrFaulty, AtomTextOrFaulty, OneFirstAtomFault, OneFirstAtomTextFault}
use Rattle.lin_text.specs.AtomSteps.{step_at, IsRead}
use Rattle.lin_text.proofs.UniqueTokens.{AreTokens-once, AreLines-once}
use Rattle.lin_text.proofs.FeedBehind.{first_token-within}
use Rattle.lin_text.proofs.Canonical.{canonical_told}
use Rattle.lin_text.proofs.AtomRefused.{is_over}
use Rattle.lin_text.proofs.AtomParts.{read_none, at_step, at_fault}
use Rattle.lin_text.proofs.AtomWhole.{read_atom, spells_to, refuses_whole}
use Rattle.lin_text.proofs.AtomEnds.{at_end, behind_end}
use Rattle.lin_text.proofs.AtomTextFaults.{no_line, in_line, alone, line_behind}

abbrev Outcome : Bool → List ℕ → ℕ → Type 0
Outcome p bytes at = ((a : PlainKeyAtom) × SpellsAtom p bytes at a (line_end ∷ []))
    ⊎ ((kind : TextKind) × (place : ℕ) × HasAtomFault p bytes at kind place)

-- behind a canonical atom
canonical_ends : (p : Bool) (bytes : List ℕ) (at : ℕ) (terms : List FormTerm) (op : Op) (z : ℤ) (to : ℕ)
    → (got : IsRead p bytes at terms (states.Over op z) to)
    → IsCanonical (read_atom p bytes at terms op z to got)
    → (end : Read (Unit {0})) → end_at p bytes to ≡ end → Outcome p bytes at
canonical_ends p bytes at terms op z to got canonical (Ok u) e =
    let a = read_atom p bytes at terms op z to got in
    inl (a, at_end p bytes at a to (spells_to p bytes at terms op z to got canonical) e)
canonical_ends p bytes at terms op z to got canonical (Err f) e =
    let a = read_atom p bytes at terms op z to got in
    inr (f.kind, f.at, behind_end p bytes at a to (spells_to p bytes at terms op z to got canonical) f e)

-- behind a whole atom
whole_ends : (p : Bool) (bytes : List ℕ) (at : ℕ) (terms : List FormTerm) (op : Op) (z : ℤ) (to : ℕ)
    → IsRead p bytes at terms (states.Over op z) to → Outcome p bytes at
whole_ends p bytes at terms op z to got =
    elim (canonical_told (read_atom p bytes at terms op z to got)) [
      | inl canonical ↦ canonical_ends p bytes at terms op z to got canonical (end_at p bytes to) refl
      | inr none ↦ inr (
        Syntax,
        (first_token p bytes at).from,
        refuses_whole p bytes at terms op z to got none,
      )
    ]

over_or_not : (s : State) → ((op : Op) × (z : ℤ) × (s ≡ states.Over op z)) ⊎ (is_over s ≡ false)
over_or_not (states.Over op z) = inl (op, z, refl)
over_or_not _ = inr refl

-- one token more
by_step : (p : Bool) (bytes : List ℕ) (at : ℕ) (terms : List FormTerm) (s : State) (to : ℕ)
    → IsRead p bytes at terms s to → is_over s ≡ false
    → ((ts : List FormTerm) (u : State) (end : ℕ) → end ≡ (first_token p bytes to).to → to < end
    → IsRead p bytes at ts u end → Outcome p bytes at)
    → (read : Read Step) → step_at bytes (length terms) s (lexeme_at p bytes to) ≡ read → Outcome p bytes at
by_step p bytes at terms s to got goes_on further (Ok st) e =
    let more = at_step p bytes at terms s to got (lexeme_at p bytes to) st refl e in
    further _ _ (first_token p bytes to).to refl more.1 more.0
by_step p bytes at terms s to got goes_on further (Err f) e =
    inr (f.kind, f.at, at_fault p bytes at terms s to got (lexeme_at p bytes to) f refl goes_on e)

read_on : (n : ℕ) (p : Bool) (bytes : List ℕ) (at : ℕ) (terms : List FormTerm) (s : State) (to : ℕ)
    → IsRead p bytes at terms s to → to ≤ length bytes → length bytes - to < n → Outcome p bytes at
read_on zero p bytes at terms s to got le few = absurd (omega (arith, few))
read_on (suc n) p bytes at terms s to got le few =
    elim (over_or_not s) [
      | inl over ↦
          whole_ends p bytes at terms over.0 over.1 to
          (subst (λ (u : State). IsRead p bytes at terms u to) over.2 got)
      | inr goes_on ↦
          by_step p bytes at terms s to got goes_on
          (λ ts u end is further more.
          let within : end ≤ length bytes =
          subst (λ (m : ℕ). m ≤ length bytes) (sym is) (first_token-within p bytes to le).1 in
          read_on n p bytes at ts u end more within (omega (arith, further, within, few)))
          (step_at bytes (length terms) s (lexeme_at p bytes to)) refl
    ]

pub spelled_or_faulty : AtomSpelledOrFaulty
spelled_or_faulty p bytes at le =
    read_on (suc (length bytes)) p bytes at [] (states.Item false) at (read_none p bytes at le) le (omega arith)

abbrev TextOutcome : List ℕ → Type 0
TextOutcome bytes = ((a : PlainKeyAtom) × IsAtomText bytes a)
    ⊎ ((kind : TextKind) × (place : ℕ) × HasFaultFrom atom_rules false bytes false 0 kind place)

-- behind an atom's line
below_line : (bytes : List ℕ) (at : ℕ) (a : PlainKeyAtom) → at ≡ line_from bytes 0 → at < length bytes
    → SpellsAtom false bytes at a (line_end ∷ []) → TextOutcome bytes
below_line bytes at a start lt s =
    let below = line_from bytes (line_below bytes at) in
    let bounds = first_line-bounds true (line_below bytes at) (drop (line_below bytes at) bytes) in
    elim (nat_lt below (length bytes)) as (λ b. nat_lt below (length bytes) ≡ b → TextOutcome bytes) [
      | true ↦ λ e. inr (
        (refusal (lexeme_at false bytes below)).kind,
        (refusal (lexeme_at false bytes below)).at,
        line_behind bytes at below a start lt s refl (ltb-true below (length bytes) e)
            (lexeme_at false bytes below) refl,
      )
      | false ↦ λ e.
          let ge : length bytes ≤ below = ltb-false below (length bytes) e in
          inl (
            a,
            alone bytes at below a start lt s refl
                (omega (arith, ge, bounds.1, length-drop (line_below bytes at) bytes)),
          )
    ] refl

pub text_or_faulty : AtomTextOrFaulty
text_or_faulty bytes =
    let at = line_from bytes 0 in
    let bounds = first_line-bounds true 0 bytes in
    elim (nat_lt at (length bytes)) as (λ b. nat_lt at (length bytes) ≡ b → TextOutcome bytes) [
      | true ↦ λ e.
          let lt : at < length bytes = ltb-true at (length bytes) e in
          elim (spelled_or_faulty false bytes at (omega (arith, lt))) [
            | inl s ↦ below_line bytes at s.0 refl lt s.1
            | inr f ↦ inr (f.0, f.1, in_line bytes at f.0 f.1 refl lt f.2)
          ]
      | false ↦ λ e.
          let ge : length bytes ≤ at = ltb-false at (length bytes) e in
          inr (Syntax, at, no_line bytes at refl (omega (arith, ge, bounds.1)))
    ] refl

-- the first fault is one

pub one_fault : OneFirstAtomFault
one_fault p bytes at k j a b f g =
    let same : f.tokens ≡ g.tokens = AreTokens-once p bytes at f.tokens g.tokens f.are g.are in
    one_first rank rank-strict (StandsAmong g.tokens) k j a b
    (subst (λ (ts : List PlainToken). IsFirst rank (StandsAmong ts) k a) same f.first) g.first

pub one_text_fault : OneFirstAtomTextFault
one_text_fault bytes k j a b f g =
    let same : f.lines ≡ g.lines = AreLines-once false bytes 0 f.lines g.lines f.are g.are in
    one_first rank rank-strict (StandsIn atom_rules bytes false g.lines) k j a b
    (subst (λ (ls : List PlainLine). IsFirst rank (StandsIn atom_rules bytes false ls) k a) same f.first) g.first
