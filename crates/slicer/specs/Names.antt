-- Which variables an atom names.
use Rattle.std.specs.Prelude.{◌≡◌, ℕ, List, [], ◌++◌, length, All, IsSomeAnd, slice_get, Contains}
use Rattle.std.specs.List.{filter_map}
use Rattle.lin_model.specs.Terms.{PlainTerm}
use Rattle.lin_model.specs.Conditions.{PlainCondition, AtomNamesBelow}
use Rattle.lin_model.specs.declared.atom.Atom.{Atom}

-- the variables that the terms of a side name, from left to right, whatever their factors
abbrev pub side_vars : List PlainTerm → List ℕ
side_vars terms = filter_map (λ term. term.var) terms

-- the variables that an atom names, from left to right
abbrev pub atom_vars : Atom → List ℕ
atom_vars atom = side_vars atom.left ++ side_vars atom.right

-- some term of either side is on this variable
abbrev pub Names : Atom → ℕ → Type 0
Names atom var = Contains (atom_vars atom) var

-- there is an atom of this number, and it names the variable
abbrev pub NamesAt : List Atom → ℕ → ℕ → Type 0
NamesAt atoms j var = IsSomeAnd (slice_get atoms j) (λ atom. Names atom var)

-- there is an atom of this number, and it names no variable
abbrev pub NamesNothingAt : List Atom → ℕ → Type 0
NamesNothingAt atoms j = IsSomeAnd (slice_get atoms j) (λ atom. atom_vars atom ≡ [])

-- the atoms of a condition name only variables that it declares
abbrev pub NamesDeclared : PlainCondition → Type 0
NamesDeclared c = All (AtomNamesBelow (length c.vars)) c.atoms
