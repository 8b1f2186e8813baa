-- The terms of a form as the terms of a side.
use Rattle.std.proofs.Common.{◌≡◌, ℕ, ◌-◌, ◌≤◌, List, [], ◌∷◌, ◌++◌, length, take, drop, get_or, map, refl, sym, ap}
use Rattle.std.proofs.Common.{◌∙◌}
use Rattle.std.proofs.Common.{arith, append_assoc}
use Rattle.std.specs.Prelude.{flat_map, Result, Ok, Err, OnOk}
use Rattle.std.proofs.Math.Seq.{take-length}
use Rattle.lin_model.specs.declared.form.FormTerm.{FormTerm}
use Rattle.lin_text.specs.Spelling.{side_text, first_term, later_term}
use Rattle.lin_text.specs.KeyAtoms.{key_name, side_term}

pub later_terms : (terms : List FormTerm) → flat_map (later_term key_name) (map side_term terms)
    ≡ flat_map (λ t. later_term key_name (side_term t)) terms
later_terms [] = refl
later_terms (t ∷ terms) = ap (λ (text : List ℕ). later_term key_name (side_term t) ++ text) (later_terms terms)

-- a side with a first term and later ones
pub side_text-split : (terms : List FormTerm) (d : FormTerm) → 1 ≤ length terms
    → side_text key_name (map side_term terms) ≡ first_term key_name (side_term (get_or terms 0 d))
    ++ flat_map (λ t. later_term key_name (side_term t)) (take (length terms - 1) (drop 1 terms))
unfolding side_text
side_text-split [] d le = absurd (omega arith)
side_text-split (t ∷ ts) d le =
    let whole : take (length (t ∷ ts) - 1) ts ≡ ts =
    ap (λ (n : ℕ). take n ts) (let n : length (t ∷ ts) - 1 ≡ length ts = omega arith in n) ∙ take-length ts in
    ap (λ (text : List ℕ). first_term key_name (side_term t) ++ text) (later_terms ts
    ∙ ap (λ (us : List FormTerm). flat_map (λ u. later_term key_name (side_term u)) us) (sym whole))

-- two pieces behind a text, where they are one
pub joined : {X E : Type 0} (r : Result X E) (new mid old first later whole : List ℕ) → mid ≡ old ++ first
    → whole ≡ first ++ later → OnOk r (new ≡ mid ++ later) → OnOk r (new ≡ old ++ whole)
joined (Ok x) new mid old first later whole m w h =
    h ∙ (ap (λ (xs : List ℕ). xs ++ later) m ∙ (append_assoc old first later
    ∙ ap (λ (xs : List ℕ). old ++ xs) (sym w)))
joined (Err e) new mid old first later whole m w h = tt
