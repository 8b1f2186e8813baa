-- What the slices of a condition keep.
use Rattle.std.specs.Prelude.{◌≡◌, ℕ, ◌<◌, List, length, All, Any, AllPairs, Contains}
use Rattle.lin_model.specs.Conditions.{PlainCondition}
use Rattle.slicer.specs.Names.{NamesAt, NamesDeclared}
use Rattle.slicer.specs.Slices.{PlainSlice, AreSlices}

-- some list has the slices of the condition
pub record HasSlices (c : PlainCondition) : Type 0 where
  pub slices : List PlainSlice
  pub are : AreSlices c slices

-- every condition has slices
abbrev pub EachHasSlices : Type 0
EachHasSlices = (c : PlainCondition) → HasSlices c

-- a condition has one list of slices alone
abbrev pub SlicesAreUnique : Type 0
SlicesAreUnique = (c : PlainCondition) (one other : List PlainSlice) → AreSlices c one → AreSlices c other → one ≡ other

-- two slices have no variable and no atom in common
pub record AreApart (s t : PlainSlice) : Type 0 where
  pub vars : (v : ℕ) → Contains s.vars v → ¬ Contains t.vars v
  pub atoms : (j : ℕ) → Contains s.atoms j → ¬ Contains t.atoms j

-- a slice with an atom has each variable that the atom names
abbrev pub HasNamed : PlainCondition → PlainSlice → Type 0
HasNamed c slice = (j v : ℕ) → Contains slice.atoms j → NamesAt c.atoms j v → Contains slice.vars v

-- each variable and each atom stands in one slice, an atom with the variables that it names
pub record IsPartition (c : PlainCondition) (slices : List PlainSlice) : Type 0 where
  pub each_var : (v : ℕ) → v < length c.vars → Any (λ slice. Contains slice.vars v) slices
  pub each_atom : (j : ℕ) → j < length c.atoms → Any (λ slice. Contains slice.atoms j) slices
  pub apart : AllPairs AreApart slices
  pub named : All (HasNamed c) slices

-- the slices of a condition part it, where its atoms name only variables that it declares
abbrev pub SlicesPartition : Type 0
SlicesPartition =
    (c : PlainCondition) (slices : List PlainSlice) → NamesDeclared c → AreSlices c slices → IsPartition c slices
