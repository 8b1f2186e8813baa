-- What is found for a box, and what it means that nothing is.
use Rattle.std.specs.Prelude.{◌≡◌, ◌≢◌, ℕ, ◌<◌, ℤ, Bool, true, false, List, [], ◌∷◌}
use Rattle.std.specs.List.{All}
use Rattle.lin_model.specs.KeyAtom.{PlainKeyAtom}
use Rattle.refutation.specs.declared.side.Side.{Side}
use Rattle.refutation.specs.Bounds.{PlainBounds, is_empty}
use Rattle.refutation.specs.Box.{PlainBox}
use Rattle.refutation.specs.Leaf.{PlainLeaf, combo, fixed, empty, is_unit, is_sum_of_two, ClosedByOneAtom, ClosedBySumOfTwo}
use Rattle.refutation.specs.Leaf.{fixed_closes}
use Rattle.refutation.specs.Glance.{SomeUnitCloses, SomePairCloses, term_at, unit_closes}
use Rattle.refutation.specs.Reading.{names_ne}

-- each side is of an atom `form != c` of the key
abbrev pub AreNeSides : List PlainKeyAtom → List Side → Type 0
AreNeSides key sides = All (λ side. names_ne key side.atom ≡ true) sides

-- the box of these bounds and sides
abbrev pub box_of : PlainBounds → List Side → PlainBox
box_of bounds sides = record { bounds = bounds; sides = sides }

-- nothing closes the box at a glance
pub record StaysOpen (key : List PlainKeyAtom) (box : PlainBox) : Type 0 where
  pub full : is_empty box.bounds ≡ false
  pub not_by_one : ¬ ClosedByOneAtom key box
  pub not_by_two : ¬ ClosedBySumOfTwo key box

-- the leaf is one term with the factor 1 or -1
abbrev pub is_unit_term : PlainLeaf → Bool
is_unit_term (combo []) = false
is_unit_term (combo (t ∷ [])) = is_unit t
is_unit_term (combo (t ∷ u ∷ ts)) = false
is_unit_term (fixed i) = false
is_unit_term empty = false

-- no plainer leaf closes the box: an empty box comes before a combination, one unit before a sum of two, that before
-- anything longer, and a combination of one or two before a form with one value
pub record IsPlainest (key : List PlainKeyAtom) (box : PlainBox) (leaf : PlainLeaf) : Type 0 where
  pub empty_first : leaf ≢ empty → is_empty box.bounds ≡ false
  pub one_next : leaf ≢ empty → is_unit_term leaf ≡ false → ¬ SomeUnitCloses key box
  pub two_next : leaf ≢ empty → is_unit_term leaf ≡ false → is_sum_of_two leaf ≡ false → ¬ SomePairCloses key box

-- the leaf is a term on a place of the row, and no unit on a place before closes the box
pub record IsFirstUnit (key : List PlainKeyAtom) (box : PlainBox) (leaf : PlainLeaf) : Type 0 where
  pub place : ℕ
  pub factor : ℤ
  pub unit : leaf ≡ combo (term_at key place factor ∷ [])
  pub before : (k : ℕ) → k < place → unit_closes key box k ≡ false

-- the atom is the first whose form has one value within the bounds, which fails its test
pub record IsFirstFixed (key : List PlainKeyAtom) (bounds : PlainBounds) (i : ℕ) : Type 0 where
  pub closes : fixed_closes key bounds i ≡ true
  pub before : (k : ℕ) → k < i → fixed_closes key bounds k ≡ false

-- among units the first that closes the box is given, and among forms with one value the first that does
pub record IsFirstAmongEquals (key : List PlainKeyAtom) (box : PlainBox) (leaf : PlainLeaf) : Type 0 where
  pub of_units : is_empty box.bounds ≡ false → SomeUnitCloses key box → IsFirstUnit key box leaf
  pub of_values : (i : ℕ) → leaf ≡ fixed i → IsFirstFixed key box.bounds i
