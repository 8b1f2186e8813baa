-- Leaves by the new numbers, over the chosen atoms.
use Rattle.std.proofs.Common.{◌≡◌, ℕ, Bool, false, ◌&&◌, nat_le, Option, List, [], ◌∷◌, length, map, All, refl, ap}
use Rattle.std.proofs.Common.{◌∙◌, option_map, option_and_then}
use Rattle.std.specs.Option.{option_map_or}
use Rattle.std.proofs.lemmas.List.{length-map}
use Rattle.std.proofs.lemmas.List.Elements.{All-head, All-tail}
use Rattle.lin_model.specs.KeyAtom.{PlainKeyAtom}
use Rattle.refutation.specs.declared.leaf.LeafTerm.{LeafTerm}
use Rattle.refutation.specs.declared.side.Side.{Side}
use Rattle.refutation.specs.Bounds.{PlainBounds, least, greatest}
use Rattle.refutation.specs.Box.{PlainBox}
use Rattle.refutation.specs.Chosen.{chosen}
use Rattle.refutation.specs.Leaf.{Multiple, weighted, multiple_of, multiples_of, is_positive_sum, combo_closes}
use Rattle.refutation.specs.Leaf.{fails_fixed, fixed_closes}
use Rattle.unsat_core.specs.Renumbered.{on_names, new_number, renumbered_term}
use Rattle.unsat_core.proofs.ReadingPlaces.{IsKept, AreKept, HasKeptSides, renumbered_side, renumbered_box, chosen-at}
use Rattle.unsat_core.proofs.ReadingPlaces.{named-same}

-- the term names kept atoms alone
abbrev pub IsKeptTerm : List PlainKeyAtom → List Bool → LeafTerm → Type 0
IsKeptTerm key choice term = AreKept key choice (λ i. on_names i term.on)

module _ (key : List PlainKeyAtom) (choice : List Bool) (same : length choice ≡ length key) where
  multiple-same : (sides : List Side) (term : LeafTerm) → IsKeptTerm key choice term → HasKeptSides key choice sides
      → multiple_of (chosen key choice) (map (renumbered_side choice) sides) (renumbered_term choice term)
      ≡ multiple_of key sides term
  multiple-same sides term kept by_sides =
      ap (option_and_then (λ a. weighted a term.factor)) (named-same key choice same sides term.on kept by_sides)

  multiples-same : (sides : List Side) (terms : List LeafTerm) → All (IsKeptTerm key choice) terms
      → HasKeptSides key choice sides
      → multiples_of (chosen key choice) (map (renumbered_side choice) sides) (map (renumbered_term choice) terms)
      ≡ multiples_of key sides terms
  multiples-same sides [] kept by_sides = refl
  multiples-same sides (term ∷ terms) kept by_sides =
      ap (option_and_then (λ m. option_map (λ ms. m ∷ ms)
      (multiples_of (chosen key choice) (map (renumbered_side choice) sides) (map (renumbered_term choice) terms))))
      (multiple-same sides term (All-head (IsKeptTerm key choice) term terms kept) by_sides)
      ∙ ap (λ (o : Option (List Multiple)). option_and_then (λ m. option_map (λ ms. m ∷ ms) o)
      (multiple_of key sides term))
      (multiples-same sides terms (All-tail (IsKeptTerm key choice) term terms kept) by_sides)

  -- a combination closes the box alike
  pub combo-same : (box : PlainBox) (terms : List LeafTerm) → All (IsKeptTerm key choice) terms
      → HasKeptSides key choice box.sides
      → combo_closes (chosen key choice) (renumbered_box choice box) (map (renumbered_term choice) terms)
      ≡ combo_closes key box terms
  unfolding combo_closes
  combo-same box terms kept by_sides =
      ap (λ (n : ℕ). nat_le 1 n && (nat_le n 8 && option_map_or (is_positive_sum box.bounds)
      (multiples_of (chosen key choice) (map (renumbered_side choice) box.sides) (map (renumbered_term choice) terms))
      false)) (length-map terms (renumbered_term choice))
      ∙ ap (λ (o : Option (List Multiple)). nat_le 1 (length terms)
      && (nat_le (length terms) 8 && option_map_or (is_positive_sum box.bounds) o false))
      (multiples-same box.sides terms kept by_sides)

  -- so does an atom whose form has one value
  pub fixed-same : (b : PlainBounds) (i : ℕ) → IsKept key choice i
      → fixed_closes (chosen key choice) b (new_number choice i) ≡ fixed_closes key b i
  unfolding fixed_closes
  fixed-same b i kept =
      ap (λ (o : Option PlainKeyAtom). option_map_or (λ a. fails_fixed a (least a.form b) (greatest a.form b)) o false)
      (chosen-at key choice i same kept)
