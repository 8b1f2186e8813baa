-- What is tried of a box: single units, and sums of two of which the first fails at the lowest corner.
use Rattle.std.specs.Prelude.{◌≡◌, ℕ, ◌<◌, ℤ, pos, negsuc, ◌<ℤ◌, true, false, Some, List, [], ◌∷◌}
use Rattle.lin_model.specs.KeyAtom.{PlainKeyAtom}
use Rattle.refutation.specs.declared.leaf.LeafTerm.{LeafTerm}
use Rattle.refutation.specs.Box.{PlainBox}
use Rattle.refutation.specs.Glance.{place_count, term_at}
use Rattle.refutation.specs.Leaf.{PlainLeaf, Closes, combo, combo_closes, is_unit, is_sum_of_two}
use Rattle.combos.specs.Corner.{corner_value}
use Rattle.combos.specs.Found.{is_unit_term, IsFirstUnit}

-- the leaf closes the box, and is one unit
pub record IsClosingUnit (key : List PlainKeyAtom) (box : PlainBox) (leaf : PlainLeaf) : Type 0 where
  pub closes : Closes key box leaf
  pub unit : is_unit_term leaf ≡ true

-- and it is on this place of the row
pub record IsClosingUnitAt (key : List PlainKeyAtom) (box : PlainBox) (place : ℕ) (leaf : PlainLeaf) : Type 0 where
  pub closing : IsClosingUnit key box leaf
  pub factor : ℤ
  pub at : leaf ≡ combo (term_at key place factor ∷ [])

-- or on the first place that closes the box so
pub record IsFirstClosingUnit (key : List PlainKeyAtom) (box : PlainBox) (leaf : PlainLeaf) : Type 0 where
  pub closing : IsClosingUnit key box leaf
  pub first : IsFirstUnit key box leaf

-- the leaf is a combination
pub record IsCombination (leaf : PlainLeaf) : Type 0 where
  pub terms : List LeafTerm
  pub is : leaf ≡ combo terms

-- the leaf closes the box, and is the sum of two units
pub record IsClosingPair (key : List PlainKeyAtom) (box : PlainBox) (leaf : PlainLeaf) : Type 0 where
  pub closes : Closes key box leaf
  pub pair : is_sum_of_two leaf ≡ true

-- the second term is a unit, and closes the box together with the first
pub record ClosesWith (key : List PlainKeyAtom) (box : PlainBox) (first second : LeafTerm) : Type 0 where
  pub unit : is_unit second ≡ true
  pub closes : combo_closes key box (first ∷ second ∷ []) ≡ true

-- neither factor of the atom or side at this place closes the box together with the term
pub record NeitherCloses (key : List PlainKeyAtom) (box : PlainBox) (first : LeafTerm) (place : ℕ) : Type 0 where
  pub plus : combo_closes key box (first ∷ term_at key place (pos 1) ∷ []) ≡ false
  pub minus : combo_closes key box (first ∷ term_at key place (negsuc 0) ∷ []) ≡ false

-- no atom or side closes the box together with the term
abbrev pub NoneCloses : List PlainKeyAtom → PlainBox → LeafTerm → Type 0
NoneCloses key box first = (place : ℕ) → place < place_count key box.sides → NeitherCloses key box first place

-- where the term is worth more than 0 at the lowest corner, no atom or side closes the box together with it
abbrev pub NoneIfFailing : List PlainKeyAtom → PlainBox → LeafTerm → Type 0
NoneIfFailing key box first = (x : ℤ) → corner_value key box false first ≡ Some x → pos 0 <ℤ x → NoneCloses key box first

-- this of both factors at a place
pub record NoPairFrom (key : List PlainKeyAtom) (box : PlainBox) (place : ℕ) : Type 0 where
  pub plus : NoneIfFailing key box (term_at key place (pos 1))
  pub minus : NoneIfFailing key box (term_at key place (negsuc 0))
