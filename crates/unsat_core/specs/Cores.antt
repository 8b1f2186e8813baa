-- Cores: which atoms of a key that a tree refutes are kept.
use Rattle.std.specs.Prelude.{◌≡◌, ◌⊎◌, ℕ, ◌<◌, Bool, true, false, not, ◌&&◌, ◌==◌, IsTrue, IsSomeAnd, List, length}
use Rattle.std.specs.Prelude.{slice_get, slice_set, slice_index_or}
use Rattle.lin_model.specs.KeyAtom.{PlainKeyAtom}
use Rattle.refutation.specs.Box.{is_ne}
use Rattle.refutation.specs.Chosen.{chosen}
use Rattle.refutation.specs.Reading.{Refutes}
use Rattle.refutation.specs.Tree.{PlainTree}
use Rattle.unsat_core.specs.Renumbered.{names, renumbered}

-- the atom may give a bound: it has one variable, and isn't `v != c`
abbrev pub is_bound : PlainKeyAtom → Bool
is_bound a = (length a.form == 1) && not (is_ne a)

-- the atom of this number is chosen
abbrev pub IsChosen : List Bool → ℕ → Type 0
IsChosen choice i = slice_index_or choice i false ≡ true

-- the choice without this atom
abbrev pub without : List Bool → ℕ → List Bool
without choice i = slice_set choice i false

-- the tree, by the new numbers, refutes the chosen atoms
abbrev pub RefutesChosen : List PlainKeyAtom → PlainTree → List Bool → Type 0
RefutesChosen key tree choice =
    Refutes (chosen key choice) (renumbered choice tree).nodes (renumbered choice tree).terms

-- each atom of the key that the tree names is chosen
abbrev pub HasNamed : List PlainKeyAtom → PlainTree → List Bool → Type 0
HasNamed key tree choice = (i : ℕ) → i < length key → names tree i ≡ true → IsChosen choice i

-- a bound without which the same tree doesn't refute the others
pub record IsNeededBound (key : List PlainKeyAtom) (tree : PlainTree) (choice : List Bool) (i : ℕ) : Type 0 where
  pub bound : IsSomeAnd (slice_get key i) (λ a. IsTrue (is_bound a))
  pub needed : ¬ RefutesChosen key tree (without choice i)

-- the tree names the atom, or can't do without it
abbrev pub IsNeeded : List PlainKeyAtom → PlainTree → List Bool → ℕ → Type 0
IsNeeded key tree choice i = IsTrue (names tree i) ⊎ IsNeededBound key tree choice i

-- a choice that has the atoms which the tree names, which the tree, by the new numbers, refutes, and of which it needs
-- each
pub record IsLeast (key : List PlainKeyAtom) (tree : PlainTree) (choice : List Bool) : Type 0 where
  pub one_each : length choice ≡ length key
  pub named : HasNamed key tree choice
  pub refutes : RefutesChosen key tree choice
  pub needed : (i : ℕ) → IsChosen choice i → IsNeeded key tree choice i

-- the core of a key that a tree refutes: such a choice, with the tree by the new numbers
pub record IsCoreOf (key : List PlainKeyAtom) (tree : PlainTree) (core : List PlainKeyAtom) (core_tree : PlainTree)
    : Type 0 where
  pub choice : List Bool
  pub least : IsLeast key tree choice
  pub atoms : core ≡ chosen key choice
  pub adjusted : core_tree ≡ renumbered choice tree
