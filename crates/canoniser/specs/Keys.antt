-- The key of a slice.
use Rattle.std.specs.Prelude.{◌≡◌, ◌≢◌, ◌⊎◌, ◌↔◌, ℕ, ◌<◌, IsSomeAnd, List, length, slice_index, Contains, All, Any}
use Rattle.std.specs.List.{slice_get}
use Rattle.lin_model.specs.declared.op.Op.TheVariants.{Le, Ge}
use Rattle.lin_model.specs.Terms.{PlainVar}
use Rattle.lin_model.specs.Conditions.{PlainCondition}
use Rattle.lin_model.specs.KeyAtom.{PlainKeyAtom}
use Rattle.lin_model.specs.Key.{Ascends}
use Rattle.lin_model.specs.Bounded.{variable}
use Rattle.slicer.specs.Slices.{PlainSlice, AreSlices}
use Rattle.atom_implies.specs.Implies.{Implies}
use Rattle.canoniser.specs.declared.atom_form.AtomForm.TheVariants.{False, KeyAtom}
use Rattle.canoniser.specs.Forms.{canonical_form}
use Rattle.canoniser.specs.Numbering.{atoms_of, order_of}

-- it is one of the condition's slices
pub record IsSliceIn (c : PlainCondition) (s : PlainSlice) : Type 0 where
  pub slices : List PlainSlice
  pub all : AreSlices c slices
  pub one : Contains slices s

-- the bounds of a variable, of which the key has the number v
abbrev pub upper_atom : ℕ → PlainVar → PlainKeyAtom
upper_atom v var = record { form = variable v; op = Le; constant = var.hi }

abbrev pub lower_atom : ℕ → PlainVar → PlainKeyAtom
lower_atom v var = record { form = variable v; op = Ge; constant = var.lo }

-- the atom is a bound of the v-th variable of the list
abbrev pub BoundsAt : PlainCondition → List ℕ → PlainKeyAtom → ℕ → Type 0
BoundsAt c order a v =
    IsSomeAnd (slice_get c.vars (slice_index order v)) (λ var. (a ≡ upper_atom v var) ⊎ (a ≡ lower_atom v var))

abbrev pub IsBound : PlainCondition → List ℕ → PlainKeyAtom → Type 0
IsBound c order a = (v : ℕ) × (v < length order) × BoundsAt c order a v

-- it is the canonical form of some atom of the slice, or a bound of one of the slice's variables
abbrev pub IsGiven : PlainCondition → PlainSlice → PlainKeyAtom → Type 0
IsGiven c s a =
    Any (λ atom. canonical_form (order_of c s) atom ≡ KeyAtom a) (atoms_of c s) ⊎ IsBound c (order_of c s) a

-- it is one of them, and no other of them implies it
pub record IsStrongest (Given : PlainKeyAtom → Type 0) (a : PlainKeyAtom) : Type 0 where
  pub one : Given a
  pub alone : (b : PlainKeyAtom) → Given b → Implies b a → b ≡ a

-- the sorted list of those canonical forms of the slice's atoms and bounds that no other of them implies; there is none
-- where the canonical form of an atom is False
pub record IsKeyOf (c : PlainCondition) (s : PlainSlice) (key : List PlainKeyAtom) : Type 0 where
  pub none_false : All (λ atom. canonical_form (order_of c s) atom ≢ False) (atoms_of c s)
  pub ascends : Ascends key
  pub just : (a : PlainKeyAtom) → Contains key a ↔ IsStrongest (IsGiven c s) a
