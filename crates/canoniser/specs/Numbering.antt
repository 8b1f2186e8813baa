-- The numbers that a slice's variables have in its key.
use Rattle.std.specs.Prelude.{◌≡◌, ℕ, not, ◌==◌, List, [], ◌∷◌, ◌++◌}
use Rattle.std.specs.List.{filter, filter_map, flat_map, slice_get}
use Rattle.lin_model.specs.Conditions.{PlainCondition}
use Rattle.lin_model.specs.declared.atom.Atom.{Atom}
use Rattle.slicer.specs.Names.{atom_vars}
use Rattle.slicer.specs.Slices.{PlainSlice}

-- each number once, where it stands first
abbrev pub first_ones : List ℕ → List ℕ
first_ones [] = []
first_ones (v ∷ vs) = v ∷ filter (λ w. not (w == v)) (first_ones vs)

-- the atoms of a slice, in their order
abbrev pub atoms_of : PlainCondition → PlainSlice → List Atom
atoms_of c s = filter_map (λ j. slice_get c.atoms j) s.atoms

-- the variables of a slice in the order in which its atoms, each read from left to right, name them first, and the
-- variable of a slice without atoms; a variable's place in this list is its number in the key
abbrev pub order_of : PlainCondition → PlainSlice → List ℕ
order_of c s = first_ones (flat_map atom_vars (atoms_of c s) ++ s.vars)

-- a list that had the first ones of some numbers has those of these numbers and the new ones behind them
abbrev pub Gains : List ℕ → List ℕ → List ℕ → Type 0
Gains old new more = (numbers : List ℕ) → old ≡ first_ones numbers → new ≡ first_ones (numbers ++ more)
