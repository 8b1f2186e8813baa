-- What closes a box at a glance, as it is tried: the atoms of the key, and behind them the sides of the box, counted in
-- one row.
use Rattle.std.specs.Prelude.{ℕ, ◌+◌, ◌-◌, ◌<◌, ℤ, pos, negsuc, Bool, ◌||◌, if◌then◌else◌, nat_lt, IsTrue, List, []}
use Rattle.std.specs.Prelude.{◌∷◌, length}
use Rattle.lin_model.specs.KeyAtom.{PlainKeyAtom}
use Rattle.refutation.specs.declared.leaf.LeafTerm.{LeafTerm}
use Rattle.refutation.specs.declared.leaf.On.{On}
use Rattle.refutation.specs.declared.leaf.On.TheVariants.{Atom as OnAtom, Side as OnSide}
use Rattle.refutation.specs.declared.side.Side.{Side}
use Rattle.refutation.specs.Box.{PlainBox}
use Rattle.refutation.specs.Leaf.{combo_closes}

-- something holds of a number below n
pub record SomeBelow (P : ℕ → Type 0) (n : ℕ) : Type 0 where
  pub number : ℕ
  pub below : number < n
  pub holds : P number

-- how many atoms and sides there are
abbrev pub place_count : List PlainKeyAtom → List Side → ℕ
place_count key sides = length key + length sides

-- the atom or side at a place of the row
abbrev pub on_place : List PlainKeyAtom → ℕ → On
on_place key place = if nat_lt place (length key) then OnAtom place else OnSide (place - length key)

-- its term with a factor
abbrev pub term_at : List PlainKeyAtom → ℕ → ℤ → LeafTerm
term_at key place factor = record { on = on_place key place; factor = factor }

-- the term closes the box alone
abbrev pub closes_alone : List PlainKeyAtom → PlainBox → ℕ → ℤ → Bool
closes_alone key box place factor = combo_closes key box (term_at key place factor ∷ [])

-- the sum of the two closes it
abbrev pub close_together : List PlainKeyAtom → PlainBox → ℕ → ℤ → ℕ → ℤ → Bool
close_together key box place factor other by =
    combo_closes key box (term_at key place factor ∷ term_at key other by ∷ [])

-- the factor 1 or -1 of this atom or side closes the box
abbrev pub unit_closes : List PlainKeyAtom → PlainBox → ℕ → Bool
unit_closes key box place = closes_alone key box place (pos 1) || closes_alone key box place (negsuc 0)

-- the term and such a factor of another close it together
abbrev pub closes_with : List PlainKeyAtom → PlainBox → ℕ → ℤ → ℕ → Bool
closes_with key box place factor other =
    close_together key box place factor other (pos 1) || close_together key box place factor other (negsuc 0)

-- such factors of both do
abbrev pub pair_closes : List PlainKeyAtom → PlainBox → ℕ → ℕ → Bool
pair_closes key box place other = closes_with key box place (pos 1) other || closes_with key box place (negsuc 0) other

-- some atom or side closes the box so
abbrev pub SomeUnitCloses : List PlainKeyAtom → PlainBox → Type 0
SomeUnitCloses key box = SomeBelow (λ place. IsTrue (unit_closes key box place)) (place_count key box.sides)

-- some atom or side with this one does
abbrev pub SomeOtherCloses : List PlainKeyAtom → PlainBox → ℕ → Type 0
SomeOtherCloses key box place =
    SomeBelow (λ other. IsTrue (pair_closes key box place other)) (place_count key box.sides)

-- some two do
abbrev pub SomePairCloses : List PlainKeyAtom → PlainBox → Type 0
SomePairCloses key box = SomeBelow (SomeOtherCloses key box) (place_count key box.sides)
