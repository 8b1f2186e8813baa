-- The slices of a condition.
use Rattle.std.specs.Prelude.{◌≡◌, ◌↔◌, ℕ, ◌<◌, List, [], ◌∷◌, ◌++◌, length, slice_index, All, Any, AllPairs, Contains}
use Rattle.lin_model.specs.Conditions.{PlainCondition}
use Rattle.slicer.specs.Names.{NamesAt, NamesNothingAt}
use Rattle.slicer.specs.Linked.{Linked}

-- the numbers of a slice's variables, and those of its atoms
pub record PlainSlice : Type 0 where
  pub vars : List ℕ
  pub atoms : List ℕ

-- the list has just the numbers of which P holds, in ascending order
pub record Lists (P : ℕ → Type 0) (numbers : List ℕ) : Type 0 where
  pub ascending : AllPairs ◌<◌ numbers
  pub just : (n : ℕ) → Contains numbers n ↔ P n

-- the least variable of a slice that has any
abbrev pub least : PlainSlice → ℕ
least slice = slice_index slice.vars 0

-- the slice of a variable: the variables that are linked with it, and the atoms that name one of them
pub record IsSliceOf (c : PlainCondition) (var : ℕ) (slice : PlainSlice) : Type 0 where
  pub declared : var < length c.vars
  pub vars : Lists (λ v. (v < length c.vars) × Linked c var v) slice.vars
  pub atoms : Lists (λ j. (v : ℕ) × Linked c var v × NamesAt c.atoms j v) slice.atoms

-- one slice for each class of linked variables, by least variable
pub record AreClasses (c : PlainCondition) (slices : List PlainSlice) : Type 0 where
  pub each : All (λ slice. IsSliceOf c (least slice) slice) slices
  pub by_least : AllPairs (λ earlier later. least earlier < least later) slices
  pub every : (v : ℕ) → v < length c.vars → Any (λ slice. Contains slice.vars v) slices

-- the slice without variables of just the atoms of which P holds, and there are some
pub record IsVariableFree (P : ℕ → Type 0) (slice : PlainSlice) : Type 0 where
  pub vars : slice.vars ≡ []
  pub atoms : Lists P slice.atoms
  pub some : 0 < length slice.atoms

-- the one slice of the atoms of which P holds, or nothing where there are none
abbrev pub IsFront : (ℕ → Type 0) → List PlainSlice → Type 0
IsFront P [] = (j : ℕ) → ¬ P j
IsFront P (slice ∷ []) = IsVariableFree P slice
IsFront P (slice ∷ another ∷ more) = ⊥

-- in front the slice of the atoms that name no variable, where there are any, and then the classes
pub record AreSlices (c : PlainCondition) (slices : List PlainSlice) : Type 0 where
  pub front : List PlainSlice
  pub classes : List PlainSlice
  pub joined : slices ≡ front ++ classes
  pub variable_free : IsFront (NamesNothingAt c.atoms) front
  pub linked : AreClasses c classes
