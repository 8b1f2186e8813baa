-- At which tokens a fault stands, by the place behind the tokens before it.
use Rattle.std.proofs.Common.{◌≡◌, ℕ, ◌≤◌, Bool, true, false, List, [], ◌∷◌, ◌++◌, Some, None, refl, sym, ap, inl, inr}
use Rattle.std.proofs.Common.{◌∙◌, append_assoc, arith, lit≤}
use Rattle.std.specs.Prelude.{option_and_then, IsTrue, Contains}
use Rattle.lin_text.specs.declared.fault.TextKind.{TextKind}
use Rattle.lin_text.specs.declared.fault.TextKind.TheVariants.{Token, Syntax, NumberTooLarge, UnknownName, NameTwice}
use Rattle.lin_text.specs.declared.fault.TextKind.TheVariants.{EmptyRange, TooManyVars, TooManyAtoms, TooManyTerms}
use Rattle.lin_text.specs.declared.fault.TextKind.TheVariants.{NoMemory}
use Rattle.lin_text.specs.Pieces.{Piece, var, word, name, number, plus, minus, times, compare, bad, line_end, PlainLine}
use Rattle.lin_text.specs.Classes.{class_of}
use Rattle.lin_text.specs.Reading.{refusal_kind}
use Rattle.lin_text.specs.Grammar.{side_pieces, item_count, joint, BeginsLine}
use Rattle.lin_text.specs.Faults.{begins_variable, begins_atom, begins_item, declared_names, atom_count, EndsInFullSide}
use Rattle.lin_text.specs.Faults.{IsTooLarge, Stands}
use Rattle.lin_text.specs.Kinds.{rank}
use Rattle.lin_text.proofs.Places.{Place, start, var_name, item, size, after, next, after_next, run, run-append}
use Rattle.lin_text.proofs.Places.{run-joint, run-side, start-side, run-BeginsLine}
use Rattle.lin_text.proofs.Shapes.{Shape, Shape-next}
use Rattle.lin_text.proofs.BegunLines.{BeginsLine-run}

-- the line goes on behind these tokens as it does at the place; v says whether it declares a variable
pub record At (v : Bool) (front : List Piece) (s : Place) : Type 0 where
  pub step : (q : Piece) → (front ≡ [] → q ≡ var → ⊥) → run start (front ++ q ∷ []) ≡ next s q
  pub shape : Shape s front
  pub kind : begins_variable front ≡ v

run-one : (s : Place) (q : Piece) → run s (q ∷ []) ≡ next s q
run-one s q = elim (next s q) as (λ o. option_and_then (λ t. Some t) o ≡ o) [ None ↦ refl | Some t ↦ refl ]

begins-more : (v : Bool) (front : List Piece) (q : Piece) → begins_variable front ≡ v → (front ≡ [] → q ≡ var → ⊥)
    → begins_variable (front ++ q ∷ []) ≡ v
begins-more v [] var e no_var = absurd (no_var refl refl)
begins-more v [] _ e no_var = e
begins-more v (var ∷ front) q e no_var = e
begins-more v (_ ∷ front) q e no_var = e

pub not-nil : (front : List Piece) (q : Piece) → front ++ q ∷ [] ≡ [] → ⊥
not-nil [] q e = cc
not-nil (p ∷ front) q e = cc

-- one token more
pub At-next : (v : Bool) (front : List Piece) (s t : Place) (q : Piece) → At v front s → (front ≡ [] → q ≡ var → ⊥)
    → next s q ≡ Some t → At v (front ++ q ∷ []) t
At-next v front s t q at no_var e =
    let there : run start (front ++ q ∷ []) ≡ Some t = at.step q no_var ∙ e in
    record {
      step = λ r _. run-append start (front ++ q ∷ []) (r ∷ []) t there ∙ run-one t r;
      shape = Shape-next s t front q at.shape e;
      kind = begins-more v front q at.kind no_var;
    }

start-step : (q : Piece) → (q ≡ var → ⊥) → next start q ≡ next (item true 0) q
start-step var no_var = absurd (no_var refl)
start-step (word w) no_var = refl
start-step (name x) no_var = refl
start-step (number n) no_var = refl
start-step plus no_var = refl
start-step minus no_var = refl
start-step times no_var = refl
start-step (compare c) no_var = refl
start-step bad no_var = refl
start-step line_end no_var = refl

-- a comparison begins
pub At-start : At false [] (item true 0)
At-start = record { step = λ q no_var. run-one start q ∙ start-step q (no_var refl); shape = refl; kind = refl }

-- a declaration begins
pub At-var : At true (var ∷ []) var_name
At-var = record { step = λ q _. run-one var_name q; shape = refl; kind = refl }

-- which faults don't stand

-- what stands behind a full side
full-place : (front : List Piece) → EndsInFullSide front → (l : Bool) × (run start front ≡ Some (item l 64))
full-place front full =
    elim full.starts [
      | inl none ↦
          let r = run-side true full.side (joint full.subtracted ∷ []) in (
            true,
            ap (run start) (full.written ∙ ap (λ (b : List Piece). b ++ side_pieces full.side
                ++ joint full.subtracted ∷ []) none)
                ∙ start-side full.side (joint full.subtracted ∷ [])
                ∙ r.1 ∙ run-joint true (item_count full.side) r.0 full.subtracted []
                ∙ ap (λ (n : ℕ). Some (item true n)) full.full,
          )
      | inr some ↦
          let rest : List Piece = side_pieces full.side ++ joint full.subtracted ∷ [] in
          let l = run-side true some.0 (compare some.1 ∷ rest) in
          let r = run-side false full.side (joint full.subtracted ∷ []) in (
            false,
            ap (run start) (full.written ∙ ap (λ (b : List Piece). b ++ side_pieces full.side
                ++ joint full.subtracted ∷ []) some.2
                ∙ append_assoc (side_pieces some.0 ++ compare some.1 ∷ []) (side_pieces full.side)
                (joint full.subtracted ∷ []) ∙ append_assoc (side_pieces some.0) (compare some.1 ∷ []) rest)
                ∙ start-side some.0 (compare some.1 ∷ rest)
                ∙ l.1 ∙ r.1 ∙ run-joint false (item_count full.side) r.0 full.subtracted []
                ∙ ap (λ (n : ℕ). Some (item false n)) full.full,
          )
    ]

-- behind a full side the line goes on as before an item
pub full-next : (v : Bool) (front : List Piece) (s : Place) (q : Piece) → At v front s → EndsInFullSide front
    → (front ≡ [] → q ≡ var → ⊥) → (l : Bool) × (next s q ≡ next (item l 64) q)
full-next v front s q at full no_var =
    let f = full-place front full in
    (f.0, sym (at.step q no_var) ∙ run-append start front (q ∷ []) (item f.0 64) f.1 ∙ run-one (item f.0 64) q)

item-begins : (l : Bool) (n : ℕ) (q : Piece) → next (item l n) q ≡ None → IsTrue (begins_item q) → ⊥
item-begins l n minus e b = cc
item-begins l n (number k) e b = cc
item-begins l n (name x) e b = cc
item-begins l n _ e b = cc

-- no fault stands at a token, unless it is an empty range, which the tokens behind it make
abbrev pub NoFault : List PlainLine → List Piece → Piece → List Piece → Type 0
NoFault above front q rest = (k : TextKind) → (k ≡ EmptyRange → ⊥) → ¬ Stands above front q rest k

-- a fault stands at a token, and none that goes before it
pub record FirstStands (above : List PlainLine) (front : List Piece) (q : Piece) (rest : List Piece)
    (kind : TextKind) : Type 0 where
  pub stands : Stands above front q rest kind
  pub least : (k : TextKind) → Stands above front q rest k → rank kind ≤ rank k

-- the limits of the query's lines don't stop the line
pub record IsRoom (above : List PlainLine) (front : List Piece) (q : Piece) : Type 0 where
  pub vars : front ≡ [] → q ≡ var → ⊥
  pub atoms : front ≡ [] → IsTrue (begins_atom q) → atom_count above ≡ 256 → ⊥

-- a token that can't come next
pub refused : (above : List PlainLine) (v : Bool) (front : List Piece) (s : Place) (q : Piece) (rest : List Piece)
    → At v front s → IsRoom above front q → next s q ≡ None → FirstStands above front q rest (refusal_kind (class_of q))
refused above v front s q rest at room none =
    elim q as (λ p. q ≡ p → FirstStands above front q rest (refusal_kind (class_of p))) [
      | bad ↦ λ is. record { stands = is; least = before-token is }
      | var ↦ λ is. syntax (λ e. cc)
      | word w ↦ λ is. syntax (λ e. cc)
      | name x ↦ λ is. syntax (λ e. cc)
      | number n ↦ λ is. syntax (λ e. cc)
      | plus ↦ λ is. syntax (λ e. cc)
      | minus ↦ λ is. syntax (λ e. cc)
      | times ↦ λ is. syntax (λ e. cc)
      | compare c ↦ λ is. syntax (λ e. cc)
      | line_end ↦ λ is. syntax (λ e. cc)
    ] refl
  where
    no_terms : EndsInFullSide front → IsTrue (begins_item q) → ⊥
    no_terms full b = let f = full-next v front s q at full room.vars in item-begins f.0 64 q (sym f.1 ∙ none) b

    no_line : ¬ BeginsLine (front ++ q ∷ [])
    no_line b = let r = run-BeginsLine (front ++ q ∷ []) b in
        let e : None ≡ Some r.0 = sym none ∙ sym (at.step q room.vars) ∙ r.1 in cc

    before-token : q ≡ bad → (k : TextKind) → Stands above front q rest k → rank Token ≤ rank k
    before-token is TooManyVars h = absurd (room.vars h.0 h.1)
    before-token is TooManyAtoms h = absurd (room.atoms h.0 h.1 h.2)
    before-token is TooManyTerms h = absurd (no_terms h.0 h.1)
    before-token is Token h = lit≤ tt
    before-token is Syntax h = lit≤ tt
    before-token is NumberTooLarge h = lit≤ tt
    before-token is UnknownName h = lit≤ tt
    before-token is NameTwice h = lit≤ tt
    before-token is EmptyRange h = lit≤ tt
    before-token is NoMemory h = lit≤ tt

    before-syntax : (q ≡ bad → ⊥) → (k : TextKind) → Stands above front q rest k → rank Syntax ≤ rank k
    before-syntax not_bad TooManyVars h = absurd (room.vars h.0 h.1)
    before-syntax not_bad TooManyAtoms h = absurd (room.atoms h.0 h.1 h.2)
    before-syntax not_bad TooManyTerms h = absurd (no_terms h.0 h.1)
    before-syntax not_bad Token h = absurd (not_bad h)
    before-syntax not_bad Syntax h = lit≤ tt
    before-syntax not_bad NumberTooLarge h = lit≤ tt
    before-syntax not_bad UnknownName h = lit≤ tt
    before-syntax not_bad NameTwice h = lit≤ tt
    before-syntax not_bad EmptyRange h = lit≤ tt
    before-syntax not_bad NoMemory h = lit≤ tt

    syntax : (q ≡ bad → ⊥) → FirstStands above front q rest Syntax
    syntax not_bad = record { stands = no_line; least = before-syntax not_bad }

no_bad_after : (l : Bool) (n : ℕ) (bare : Bool) (t : Place) → after_next l n bare bad ≡ Some t → ⊥
no_bad_after l n true t e = cc
no_bad_after l n false t e = cc

no_bad : (s t : Place) → next s bad ≡ Some t → ⊥
no_bad (after l n bare) t e = no_bad_after l n bare t e
no_bad _ t e = cc

-- a token that can come next
module _ (above : List PlainLine) (v : Bool) (front : List Piece) (s t : Place) (q : Piece) (rest : List Piece)
    (at : At v front s) (room : IsRoom above front q) (some : next s q ≡ Some t) (not_full : (l : Bool)
    → next s minus ≡ Some (size l 64) → ⊥) where
  no_terms : EndsInFullSide front → ⊥
  no_terms full =
      let f = full-next v front s minus at full (λ _ e. let no : minus ≡ var = e in cc) in
      not_full f.0 f.1

  not_bad : q ≡ bad → ⊥
  not_bad is = let r : next s bad ≡ Some t = ap (next s) (sym is) ∙ some in no_bad s t r

  begins : BeginsLine (front ++ q ∷ [])
  begins = BeginsLine-run (front ++ q ∷ []) t (at.step q room.vars ∙ some)

  pub small_rank : (k : TextKind) → Stands above front q rest k → 5 ≤ rank k
  small_rank TooManyVars h = absurd (room.vars h.0 h.1)
  small_rank TooManyAtoms h = absurd (room.atoms h.0 h.1 h.2)
  small_rank TooManyTerms h = absurd (no_terms h.0)
  small_rank Token h = absurd (not_bad h)
  small_rank Syntax h = absurd (h begins)
  small_rank NumberTooLarge h = lit≤ tt
  small_rank UnknownName h = lit≤ tt
  small_rank NameTwice h = lit≤ tt
  small_rank EmptyRange h = lit≤ tt
  small_rank NoMemory h = lit≤ tt

  -- no fault stands there
  pub passed : ((n : ℕ) → q ≡ number n → IsTooLarge front n rest → ⊥)
      → ((x : List ℕ) → q ≡ name x → v ≡ false → Contains (declared_names above) x)
      → ((x : List ℕ) → q ≡ name x → front ≡ var ∷ [] → Contains (declared_names above) x → ⊥)
      → NoFault above front q rest
  passed small known once TooManyVars ne h = room.vars h.0 h.1
  passed small known once TooManyAtoms ne h = room.atoms h.0 h.1 h.2
  passed small known once TooManyTerms ne h = no_terms h.0
  passed small known once Token ne h = not_bad h
  passed small known once Syntax ne h = h begins
  passed small known once NumberTooLarge ne h = small h.0 h.1 h.2
  passed small known once UnknownName ne h = h.3 (known h.0 h.1 (sym at.kind ∙ h.2))
  passed small known once NameTwice ne h = once h.0 h.1 h.2 h.3
  passed small known once EmptyRange ne h = ne refl
  passed small known once NoMemory ne h = h

  -- no fault that goes before an empty range stands there
  pub late_rank : ((n : ℕ) → q ≡ number n → IsTooLarge front n rest → ⊥)
      → ((x : List ℕ) → q ≡ name x → v ≡ false → Contains (declared_names above) x)
      → ((x : List ℕ) → q ≡ name x → front ≡ var ∷ [] → Contains (declared_names above) x → ⊥) → (k : TextKind)
      → Stands above front q rest k → 8 ≤ rank k
  late_rank small known once EmptyRange h = lit≤ tt
  late_rank small known once TooManyVars h = absurd (passed small known once TooManyVars (λ e. cc) h)
  late_rank small known once TooManyAtoms h = absurd (passed small known once TooManyAtoms (λ e. cc) h)
  late_rank small known once TooManyTerms h = absurd (passed small known once TooManyTerms (λ e. cc) h)
  late_rank small known once Token h = absurd (passed small known once Token (λ e. cc) h)
  late_rank small known once Syntax h = absurd (passed small known once Syntax (λ e. cc) h)
  late_rank small known once NumberTooLarge h = absurd (passed small known once NumberTooLarge (λ e. cc) h)
  late_rank small known once UnknownName h = absurd (passed small known once UnknownName (λ e. cc) h)
  late_rank small known once NameTwice h = absurd (passed small known once NameTwice (λ e. cc) h)
  late_rank small known once NoMemory h = absurd h

  -- at a name only what is wrong with names stands
  pub name_rank : ((n : ℕ) → q ≡ number n → ⊥) → (k : TextKind) → Stands above front q rest k → 6 ≤ rank k
  name_rank no_number NumberTooLarge h = absurd (no_number h.0 h.1)
  name_rank no_number UnknownName h = lit≤ tt
  name_rank no_number NameTwice h = lit≤ tt
  name_rank no_number EmptyRange h = lit≤ tt
  name_rank no_number NoMemory h = lit≤ tt
  name_rank no_number TooManyVars h = absurd (omega (arith, small_rank TooManyVars h))
  name_rank no_number TooManyAtoms h = absurd (omega (arith, small_rank TooManyAtoms h))
  name_rank no_number TooManyTerms h = absurd (omega (arith, small_rank TooManyTerms h))
  name_rank no_number Token h = absurd (omega (arith, small_rank Token h))
  name_rank no_number Syntax h = absurd (omega (arith, small_rank Syntax h))

  pub twice_rank : ((n : ℕ) → q ≡ number n → ⊥) → v ≡ true → (k : TextKind) → Stands above front q rest k → 7 ≤ rank k
  twice_rank no_number declares UnknownName h = let e : false ≡ true = sym h.2 ∙ at.kind ∙ declares in absurd (cc)
  twice_rank no_number declares NumberTooLarge h = absurd (no_number h.0 h.1)
  twice_rank no_number declares NameTwice h = lit≤ tt
  twice_rank no_number declares EmptyRange h = lit≤ tt
  twice_rank no_number declares NoMemory h = lit≤ tt
  twice_rank no_number declares TooManyVars h = absurd (omega (arith, small_rank TooManyVars h))
  twice_rank no_number declares TooManyAtoms h = absurd (omega (arith, small_rank TooManyAtoms h))
  twice_rank no_number declares TooManyTerms h = absurd (omega (arith, small_rank TooManyTerms h))
  twice_rank no_number declares Token h = absurd (omega (arith, small_rank Token h))
  twice_rank no_number declares Syntax h = absurd (omega (arith, small_rank Syntax h))

  -- a sign, or the end of the line
  pub sign_passed : ((n : ℕ) → q ≡ number n → ⊥) → ((x : List ℕ) → q ≡ name x → ⊥) → NoFault above front q rest
  sign_passed no_number no_name =
      passed (λ n e _. no_number n e) (λ x e. absurd (no_name x e)) (λ x e. absurd (no_name x e))
