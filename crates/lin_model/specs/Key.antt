-- Keys: sorted lists of canonical atoms.
use Rattle.std.specs.Prelude.{◌≡◌, ℕ, ◌≤◌, max, ℤ, List, [], ◌∷◌, length}
use Rattle.std.specs.List.{All, AllAdjacentBelow}
use Rattle.std.specs.declared.cmp.Ordering.TheVariants.{Less}
use Rattle.lin_model.specs.declared.key.TheConstants.{MAX_KEY_ATOMS}
use Rattle.lin_model.specs.Form.{form_width}
use Rattle.lin_model.specs.KeyAtom.{PlainKeyAtom, IsCanonical, KeyAtomHolds}
use Rattle.lin_model.specs.AtomOrder.{compare_atoms}

-- each atom comes before the next
abbrev pub Ascends : List PlainKeyAtom → Type 0
Ascends atoms = AllAdjacentBelow (λ a b. compare_atoms a b ≡ Less) atoms (length atoms)

-- a list of atoms that may be a key, if its atoms are canonical
pub record FitsKey (atoms : List PlainKeyAtom) : Type 0 where
  pub ascends : Ascends atoms
  pub few : length atoms ≤ MAX_KEY_ATOMS

-- a list of atoms that is a key: at most 384 canonical ones, each before the next
pub record IsKey (atoms : List PlainKeyAtom) : Type 0 where
  pub fits : FitsKey atoms
  pub canonical : All IsCanonical atoms

-- one more than the greatest variable number of the atoms, 0 where there is none
abbrev pub key_width : List PlainKeyAtom → ℕ
key_width [] = 0
key_width (a ∷ atoms) = max (form_width a.form) (key_width atoms)

-- every atom holds at the point
abbrev pub KeyHolds : List PlainKeyAtom → List ℤ → Type 0
KeyHolds atoms point = All (λ a. KeyAtomHolds a point) atoms
