-- Where one stands in an atom is a place of a comparison, and what can come there can come in a comparison.
use Rattle.std.proofs.Common.{◌≡◌, ℕ, suc, true, false, List, [], ◌∷◌, ◌++◌, length, Option, Some, None}
use Rattle.std.proofs.Common.{refl, sym, ap, subst, ◌∙◌, arith, ℤ}
use Rattle.std.specs.Prelude.{option_and_then, is_some}
use Rattle.std.proofs.lemmas.List.{length_push}
use Rattle.lin_model.specs.declared.form.FormTerm.{FormTerm}
use Rattle.lin_model.specs.declared.op.Op.{Op}
use Rattle.lin_text.specs.declared.atom_step.State.{State}
use Rattle.lin_text.specs.declared.atom_step.State.TheVariants as states
use Rattle.lin_text.specs.declared.atom_step.Step.{Step}
use Rattle.lin_text.specs.Pieces.{Piece, name, number, plus, minus, times, compare, bad, line_end}
use Rattle.lin_text.specs.KeyAtomTexts.{op_of}
use Rattle.lin_text.specs.AtomSteps.{key_var, named, op_step, next, with_term, run}
use Rattle.lin_text.proofs.Places as lines

-- the place of a comparison, behind so many terms
abbrev pub image : ℕ → State → lines.Place
image n (states.Item b) = lines.item true n
image n (states.Size b) = lines.size true n
image n (states.Number z) = lines.after true (suc n) true
image n (states.Factor z) = lines.factor true (suc n)
image n states.Behind = lines.after true n false
image n (states.Constant op) = lines.item false 0
image n (states.ConstantSize op) = lines.size false 0
image n (states.Over op z) = lines.after false 1 true

abbrev pub counted : ℕ → Option FormTerm → ℕ
counted n None = n
counted n (Some t) = suc n

-- a step leads to the place of a comparison
abbrev StepsTo : ℕ → Option Step → Option lines.Place → Type 0
StepsTo n None q = Unit {0}
StepsTo n (Some s) q = q ≡ Some (image (counted n s.term) s.state)

steps-named : (n : ℕ) (z : ℤ) (o : Option ℕ) → StepsTo n (named z o) (Some (lines.after true (suc n) false))
steps-named n z None = tt
steps-named n z (Some v) = refl

steps-op : (n : ℕ) (t : Option FormTerm) (o : Option Op) → StepsTo n (op_step t o) (Some (lines.item false 0))
steps-op n t None = tt
steps-op n t (Some op) = refl

steps : (n : ℕ) (s : State) (p : Piece) → StepsTo n (next s p) (lines.next (image n s) p)
steps n (states.Item b) minus = refl
steps n (states.Item b) (number k) = refl
steps n (states.Item b) (name x) = steps-named n _ (key_var x)
steps n (states.Item b) _ = tt
steps n (states.Size b) (number k) = refl
steps n (states.Size b) (name x) = steps-named n _ (key_var x)
steps n (states.Size b) _ = tt
steps n (states.Number z) times = refl
steps n (states.Number z) plus = refl
steps n (states.Number z) minus = refl
steps n (states.Number z) (compare c) = steps-op n _ (op_of c)
steps n (states.Number z) _ = tt
steps n (states.Factor z) (name x) = steps-named n _ (key_var x)
steps n (states.Factor z) _ = tt
steps n states.Behind plus = refl
steps n states.Behind minus = refl
steps n states.Behind (compare c) = steps-op n None (op_of c)
steps n states.Behind _ = tt
steps n (states.Constant op) minus = refl
steps n (states.Constant op) (number k) = refl
steps n (states.Constant op) _ = tt
steps n (states.ConstantSize op) (number k) = refl
steps n (states.ConstantSize op) _ = tt
steps n (states.Over op z) p = tt

length-with : (terms : List FormTerm) (t : Option FormTerm) → length (with_term terms t) ≡ counted (length terms) t
length-with terms None = refl
length-with terms (Some t) = length_push terms t ∙ omega arith

abbrev RunsTo : Option (List FormTerm × State) → Option lines.Place → Type 0
RunsTo None q = Unit {0}
RunsTo (Some r) q = q ≡ Some (image (length r.0) r.1)

runs : (terms : List FormTerm) (s : State) (ps : List Piece)
    → RunsTo (run terms s ps) (lines.run (image (length terms) s) ps)
runs terms s [] = refl
runs terms s (p ∷ ps) =
    elim (next s p) as (λ o. StepsTo (length terms) o (lines.next (image (length terms) s) p)
    → RunsTo (option_and_then (λ st. run (with_term terms st.term) st.state ps) o)
    (option_and_then (λ t. lines.run t ps) (lines.next (image (length terms) s) p))) [
      | None ↦ λ h. tt
      | Some st ↦ λ h.
          subst (λ (q : Option lines.Place). RunsTo (run (with_term terms st.term) st.state ps)
          (option_and_then (λ t. lines.run t ps) q)) (sym h)
          (subst (λ (m : ℕ). RunsTo (run (with_term terms st.term) st.state ps) (lines.run (image m st.state) ps))
          (length-with terms st.term) (runs (with_term terms st.term) st.state ps))
    ] (steps (length terms) s p)

-- tokens that lead through an atom lead through a comparison
pub runs-to : (terms ends : List FormTerm) (s t : State) (ps : List Piece) → run terms s ps ≡ Some (ends, t)
    → lines.run (image (length terms) s) ps ≡ Some (image (length ends) t)
runs-to terms ends s t ps e =
    subst (λ (o : Option (List FormTerm × State)). RunsTo o (lines.run (image (length terms) s) ps)) e (runs terms s ps)

-- the tokens that an atom may have

abbrev pub IsAtomPiece : Piece → Type 0
IsAtomPiece (name x) = (v : ℕ) × (key_var x ≡ Some v)
IsAtomPiece (compare c) = is_some (op_of c) ≡ true
IsAtomPiece bad = ⊥
IsAtomPiece line_end = ⊥
IsAtomPiece _ = Unit {0}

abbrev pub AreAtomPieces : List Piece → Type 0
AreAtomPieces [] = Unit {0}
AreAtomPieces (p ∷ ps) = IsAtomPiece p × AreAtomPieces ps

abbrev AllowedBy : Option Step → Piece → Type 0
AllowedBy None p = Unit {0}
AllowedBy (Some s) p = IsAtomPiece p

allowed-named : (z : ℤ) (x : List ℕ) → AllowedBy (named z (key_var x)) (name x)
allowed-named z x = elim (key_var x) as (λ o. key_var x ≡ o → AllowedBy (named z o) (name x)) [
  | None ↦ λ e. tt
  | Some v ↦ λ e. (v, e)
] refl

allowed-op : (t : Option FormTerm) (o : Option Op) (p : Piece) → (is_some o ≡ true → IsAtomPiece p)
    → AllowedBy (op_step t o) p
allowed-op t None p h = tt
allowed-op t (Some op) p h = h refl

allowed : (s : State) (p : Piece) → AllowedBy (next s p) p
allowed (states.Item b) minus = tt
allowed (states.Item b) (number k) = tt
allowed (states.Item b) (name x) = allowed-named _ x
allowed (states.Item b) _ = tt
allowed (states.Size b) (number k) = tt
allowed (states.Size b) (name x) = allowed-named _ x
allowed (states.Size b) _ = tt
allowed (states.Number z) (compare c) = allowed-op _ (op_of c) (compare c) (λ e. e)
allowed (states.Number z) times = tt
allowed (states.Number z) plus = tt
allowed (states.Number z) minus = tt
allowed (states.Number z) _ = tt
allowed (states.Factor z) (name x) = allowed-named _ x
allowed (states.Factor z) _ = tt
allowed states.Behind (compare c) = allowed-op _ (op_of c) (compare c) (λ e. e)
allowed states.Behind plus = tt
allowed states.Behind minus = tt
allowed states.Behind _ = tt
allowed (states.Constant op) minus = tt
allowed (states.Constant op) (number k) = tt
allowed (states.Constant op) _ = tt
allowed (states.ConstantSize op) (number k) = tt
allowed (states.ConstantSize op) _ = tt
allowed (states.Over op z) p = tt

pub run-pieces : (terms ends : List FormTerm) (s t : State) (ps : List Piece) → run terms s ps ≡ Some (ends, t)
    → AreAtomPieces ps
run-pieces terms ends s t [] e = tt
run-pieces terms ends s t (p ∷ ps) e =
    elim (next s p) as (λ o. AllowedBy o p
    → option_and_then (λ st. run (with_term terms st.term) st.state ps) o ≡ Some (ends, t) → AreAtomPieces (p ∷ ps)) [
      | None ↦ λ h k. absurd (cc)
      | Some st ↦ λ h k. (h, run-pieces (with_term terms st.term) ends st.state t ps k)
    ] (allowed s p) e

-- to a place among the tokens, and on from there

pub run-front : (terms ends : List FormTerm) (s t : State) (ps qs : List Piece) → run terms s (ps ++ qs) ≡ Some (ends, t)
    → (mid : List FormTerm) × (u : State) × (run terms s ps ≡ Some (mid, u)) × (run mid u qs ≡ Some (ends, t))
run-front terms ends s t [] qs e = (terms, s, refl, e)
run-front terms ends s t (p ∷ ps) qs e =
    elim (next s p) as (λ o. option_and_then (λ st. run (with_term terms st.term) st.state (ps ++ qs)) o ≡ Some (ends, t)
    → (mid : List FormTerm) × (u : State)
    × (option_and_then (λ st. run (with_term terms st.term) st.state ps) o ≡ Some (mid, u))
    × (run mid u qs ≡ Some (ends, t))) [
      | None ↦ λ h. absurd (cc)
      | Some st ↦ λ h. run-front (with_term terms st.term) ends st.state t ps qs h
    ] e

pub run-append : (terms mid : List FormTerm) (s u : State) (ps qs : List Piece) → run terms s ps ≡ Some (mid, u)
    → run terms s (ps ++ qs) ≡ run mid u qs
run-append terms mid s u [] qs e =
    ap (λ (o : Option (List FormTerm × State)). option_and_then (λ r. run r.0 r.1 qs) o) e
run-append terms mid s u (p ∷ ps) qs e =
    elim (next s p) as (λ o. option_and_then (λ st. run (with_term terms st.term) st.state ps) o ≡ Some (mid, u)
    → option_and_then (λ st. run (with_term terms st.term) st.state (ps ++ qs)) o ≡ run mid u qs) [
      | None ↦ λ h. absurd (cc)
      | Some st ↦ λ h. run-append (with_term terms st.term) mid st.state u ps qs h
    ] e
