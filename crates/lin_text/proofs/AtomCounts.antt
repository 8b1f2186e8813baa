-- How many items of an atom were begun, and that they are no more than there may be.
use Rattle.std.proofs.Common.{◌≡◌, ℕ, ◌+◌, ◌≤◌, Bool, true, List, [], ◌∷◌, length, Option, Some, None}
use Rattle.std.proofs.Common.{refl, sym, ap, arith, ℤ}
use Rattle.std.specs.Prelude.{option_and_then}
use Rattle.std.proofs.lemmas.Bool.{false≢true}
use Rattle.std.proofs.lemmas.List.{length_push}
use Rattle.lin_model.specs.declared.form.FormTerm.{FormTerm}
use Rattle.lin_model.specs.declared.op.Op.{Op}
use Rattle.lin_text.specs.declared.atom_step.State.{State}
use Rattle.lin_text.specs.declared.atom_step.State.TheVariants as states
use Rattle.lin_text.specs.declared.atom_step.Step.{Step}
use Rattle.lin_text.specs.Pieces.{Piece, name, number, plus, minus, times, compare}
use Rattle.lin_text.specs.Faults.{begins_item}
use Rattle.lin_text.specs.AtomSteps.{key_var, named, op_step, is_item, next, with_term, pending, run}
use Rattle.lin_text.specs.KeyAtomTexts.{op_of}

-- how many items were begun
abbrev pub begun : List FormTerm → State → ℕ
begun terms s = length terms + pending s

abbrev begun_of : Option (List FormTerm × State) → ℕ
begun_of None = 0
begun_of (Some r) = begun r.0 r.1

-- a step begins no fewer
abbrev Grows : ℕ → List FormTerm → Option Step → Type 0
Grows n terms None = Unit {0}
Grows n terms (Some s) = n ≤ begun (with_term terms s.term) s.state

grows-named : (n : ℕ) (terms : List FormTerm) (z : ℤ) (o : Option ℕ) → n ≤ length terms + 1
    → Grows n terms (named z o)
grows-named n terms z None le = tt
grows-named n terms z (Some v) le = omega (arith, le, length_push terms (record { var = v; coef = z }))

grows-op : (n : ℕ) (terms : List FormTerm) (t : Option FormTerm) (o : Option Op) → n ≤ length (with_term terms t)
    → Grows n terms (op_step t o)
grows-op n terms t None le = tt
grows-op n terms t (Some op) le = omega (arith, le)

grows : (terms : List FormTerm) (s : State) (p : Piece) → Grows (begun terms s) terms (next s p)
grows terms (states.Item b) minus = omega arith
grows terms (states.Item b) (number k) = omega arith
grows terms (states.Item b) (name x) = grows-named _ terms _ (key_var x) (omega arith)
grows terms (states.Item b) _ = tt
grows terms (states.Size b) (number k) = omega arith
grows terms (states.Size b) (name x) = grows-named _ terms _ (key_var x) (omega arith)
grows terms (states.Size b) _ = tt
grows terms (states.Number z) times = omega arith
grows terms (states.Number z) plus = omega (arith, length_push terms (record { var = 64; coef = z }))
grows terms (states.Number z) minus = omega (arith, length_push terms (record { var = 64; coef = z }))
grows terms (states.Number z) (compare c) =
    grows-op _ terms (Some (record { var = 64; coef = z })) (op_of c)
    (omega (arith, length_push terms (record { var = 64; coef = z })))
grows terms (states.Number z) _ = tt
grows terms (states.Factor z) (name x) = grows-named _ terms _ (key_var x) (omega arith)
grows terms (states.Factor z) _ = tt
grows terms states.Behind plus = omega arith
grows terms states.Behind minus = omega arith
grows terms states.Behind (compare c) = grows-op _ terms None (op_of c) (omega arith)
grows terms states.Behind _ = tt
grows terms (states.Constant op) minus = omega arith
grows terms (states.Constant op) (number k) = omega arith
grows terms (states.Constant op) _ = tt
grows terms (states.ConstantSize op) (number k) = omega arith
grows terms (states.ConstantSize op) _ = tt
grows terms (states.Over op z) p = tt

-- an item begins with a token, or none
item-grows : (terms : List FormTerm) (b : Bool) (p : Piece) → begins_item p ≡ true
    → Grows (length terms + 1) terms (next (states.Item b) p)
item-grows terms b minus e = omega arith
item-grows terms b (number k) e = omega arith
item-grows terms b (name x) e = grows-named _ terms _ (key_var x) (omega arith)
item-grows terms b _ e = absurd (false≢true e)

-- whoever comes to the end has begun as many
run-grows : (terms ends : List FormTerm) (s t : State) (ps : List Piece) → run terms s ps ≡ Some (ends, t)
    → begun terms s ≤ begun ends t
run-grows terms ends s t [] e =
    let same : begun ends t ≡ begun terms s =
    ap begun_of (sym e) in omega (arith, same)
run-grows terms ends s t (p ∷ ps) e =
    elim (next s p) as (λ o. Grows (begun terms s) terms o
    → option_and_then (λ st. run (with_term terms st.term) st.state ps) o ≡ Some (ends, t)
    → begun terms s ≤ begun ends t) [
      | None ↦ λ h k. absurd (cc)
      | Some st ↦ λ h k. omega (arith, h, run-grows (with_term terms st.term) ends st.state t ps k)
    ] (grows terms s p) e

-- an item that begins behind 64 others is more than there may be
pub too_many : (terms ends : List FormTerm) (s t : State) (p : Piece) (ps : List Piece) → is_item s ≡ true
    → length terms ≡ 64 → begins_item p ≡ true → run terms s (p ∷ ps) ≡ Some (ends, t) → 65 ≤ begun ends t
too_many terms ends (states.Item b) t p ps item count e there =
    elim (next (states.Item b) p) as (λ o. Grows (length terms + 1) terms o
    → option_and_then (λ st. run (with_term terms st.term) st.state ps) o ≡ Some (ends, t) → 65 ≤ begun ends t) [
      | None ↦ λ h k. absurd (cc)
      | Some st ↦ λ h k. omega (arith, h, count, run-grows (with_term terms st.term) ends st.state t ps k)
    ] (item-grows terms b p e) there
too_many terms ends _ t p ps item count e there = absurd (false≢true item)

-- no more than 64 items are begun
abbrev pub Fits : List FormTerm → Option Step → Type 0
Fits terms None = Unit {0}
Fits terms (Some s) = begun (with_term terms s.term) s.state ≤ 64

fits-named : (terms : List FormTerm) (z : ℤ) (o : Option ℕ) → length terms + 1 ≤ 64 → Fits terms (named z o)
fits-named terms z None le = tt
fits-named terms z (Some v) le = omega (arith, le, length_push terms (record { var = v; coef = z }))

fits-op : (terms : List FormTerm) (t : Option FormTerm) (o : Option Op) → length (with_term terms t) ≤ 64
    → Fits terms (op_step t o)
fits-op terms t None le = tt
fits-op terms t (Some op) le = omega (arith, le)

pub fits : (terms : List FormTerm) (s : State) (q : Piece) → begun terms s ≤ 64
    → (length terms ≡ 64 → is_item s ≡ true → begins_item q ≡ true → ⊥) → Fits terms (next s q)
fits terms (states.Item b) q le few = by_piece q few
  where
    by_piece : (p : Piece) → (length terms ≡ 64 → is_item (states.Item b) ≡ true → begins_item p ≡ true → ⊥)
        → Fits terms (next (states.Item b) p)
    by_piece minus room =
        let other : length terms ≡ 64 → ⊥ = (λ e. room e refl refl) in omega (arith, le, other)
    by_piece (number k) room =
        let other : length terms ≡ 64 → ⊥ = (λ e. room e refl refl) in omega (arith, le, other)
    by_piece (name x) room =
        let other : length terms ≡ 64 → ⊥ = (λ e. room e refl refl) in
        fits-named terms _ (key_var x) (omega (arith, le, other))
    by_piece _ room = tt
fits terms (states.Size b) (number k) le few = omega (arith, le)
fits terms (states.Size b) (name x) le few = fits-named terms _ (key_var x) le
fits terms (states.Size b) _ le few = tt
fits terms (states.Number z) times le few = omega (arith, le)
fits terms (states.Number z) plus le few = omega (arith, le, length_push terms (record { var = 64; coef = z }))
fits terms (states.Number z) minus le few = omega (arith, le, length_push terms (record { var = 64; coef = z }))
fits terms (states.Number z) (compare c) le few =
    fits-op terms (Some (record { var = 64; coef = z })) (op_of c)
    (omega (arith, le, length_push terms (record { var = 64; coef = z })))
fits terms (states.Number z) _ le few = tt
fits terms (states.Factor z) (name x) le few = fits-named terms _ (key_var x) le
fits terms (states.Factor z) _ le few = tt
fits terms states.Behind plus le few = omega (arith, le)
fits terms states.Behind minus le few = omega (arith, le)
fits terms states.Behind (compare c) le few = fits-op terms None (op_of c) (omega (arith, le))
fits terms states.Behind _ le few = tt
fits terms (states.Constant op) minus le few = omega (arith, le)
fits terms (states.Constant op) (number k) le few = omega (arith, le)
fits terms (states.Constant op) _ le few = tt
fits terms (states.ConstantSize op) (number k) le few = omega (arith, le)
fits terms (states.ConstantSize op) _ le few = tt
fits terms (states.Over op z) q le few = tt
