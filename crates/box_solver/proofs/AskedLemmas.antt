-- The step of a box, by the number of the first atom that its lowest corner fails.
use Rattle.std.proofs.Common.{◌≡◌, ℕ, zero, suc, ◌<◌, ◌≤◌, max, ℤ, Option, Some, None, List, [], ◌∷◌, length, get_or}
use Rattle.std.proofs.Common.{ap, sym, ◌∙◌, refl, arith}
use Rattle.std.specs.Option.{option_map}
use Rattle.lin_model.specs.Form.{form_width}
use Rattle.lin_model.specs.KeyAtom.{PlainKeyAtom}
use Rattle.lin_model.specs.Key.{key_width}
use Rattle.refutation.specs.Box.{PlainBox}
use Rattle.refutation.specs.SearchOrder.{Numbered, first_failing, lowest_corner, node_for, step}
use Rattle.box_solver.specs.Steps.{IsNumberOf}

-- each atom's form is within the width of the key
pub width-at : (key : List PlainKeyAtom) (k : ℕ) (d : PlainKeyAtom) → k < length key
    → form_width (get_or key k d).form ≤ key_width key
width-at [] k d lt = absurd (omega (arith, lt))
width-at (a ∷ key) zero d lt = omega arith
width-at (a ∷ key) (suc k) d lt = let rest = width-at key k d (omega (arith, lt)) in omega (arith, rest)

-- the corner fails no atom
pub step-of_none : (key : List PlainKeyAtom) (box : PlainBox)
    → IsNumberOf key (first_failing 0 key (lowest_corner key box.bounds)) None → step key box ≡ None
unfolding step
step-of_none key box h = by_found (first_failing 0 key (lowest_corner key box.bounds)) refl h
  where
    by_found : (o : Option Numbered) → first_failing 0 key (lowest_corner key box.bounds) ≡ o → IsNumberOf key o None
        → option_map (node_for box) (first_failing 0 key (lowest_corner key box.bounds)) ≡ None
    by_found None is h = ap (option_map (node_for box)) is
    by_found (Some f) is h = let some = h.0 in absurd (cc)

-- the atom of this number is the first that the corner fails
pub step-of_some : (key : List PlainKeyAtom) (box : PlainBox) (i : ℕ) (a : PlainKeyAtom)
    → IsNumberOf key (first_failing 0 key (lowest_corner key box.bounds)) (Some i) → a ≡ get_or key i a
    → step key box ≡ Some (node_for box (record { number = i; atom = a }))
unfolding step
step-of_some key box i a h at = by_found (first_failing 0 key (lowest_corner key box.bounds)) refl h
  where
    by_found : (o : Option Numbered) → first_failing 0 key (lowest_corner key box.bounds) ≡ o → IsNumberOf key o (Some i)
        → option_map (node_for box) (first_failing 0 key (lowest_corner key box.bounds))
        ≡ Some (node_for box (record { number = i; atom = a }))
    by_found None is h = absurd (cc)
    by_found (Some f) is h =
        let number = h.0 in
        let same : f.number ≡ i = cc in
        let atom : f.atom ≡ a = sym (h.2 a) ∙ ap (λ (n : ℕ). get_or key n a) same ∙ sym at in
        ap (option_map (node_for box)) is
        ∙ ap (λ (n : ℕ). Some (node_for box (record { number = n; atom = f.atom }))) same
        ∙ ap (λ (x : PlainKeyAtom). Some (node_for box (record { number = i; atom = x }))) atom
