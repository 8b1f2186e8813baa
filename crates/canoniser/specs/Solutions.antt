-- What a key promises of its slice.
use Rattle.std.specs.Prelude.{◌≡◌, ◌↔◌, ℕ, ◌<◌, ℤ, IsSomeAnd, List, length, map, slice_index, Contains, All}
use Rattle.std.specs.List.{slice_get}
use Rattle.lin_model.specs.Terms.{value_at}
use Rattle.lin_model.specs.Truth.{AtomHolds, InBounds, IsAssignment}
use Rattle.lin_model.specs.Conditions.{PlainCondition}
use Rattle.lin_model.specs.declared.atom.Atom.{Atom}
use Rattle.lin_model.specs.KeyAtom.{PlainKeyAtom}
use Rattle.lin_model.specs.Key.{KeyHolds, key_width}
use Rattle.lin_model.specs.Bounded.{IsBounded}
use Rattle.slicer.specs.Slices.{PlainSlice}
use Rattle.canoniser.specs.Numbering.{atoms_of, order_of}
use Rattle.canoniser.specs.Keys.{IsKeyOf}

-- no integers satisfy the atom
abbrev pub IsFalse : Atom → Type 0
IsFalse atom = (values : List ℤ) → ¬ AtomHolds atom values

-- there is an atom of this number, and no integers satisfy it
abbrev pub IsFalseAt : PlainCondition → ℕ → Type 0
IsFalseAt c j = IsSomeAnd (slice_get c.atoms j) IsFalse

-- none of the numbers is that of an atom that no integers satisfy
abbrev pub NoneIsFalseAmong : PlainCondition → List ℕ → Type 0
NoneIsFalseAmong c numbers = (j : ℕ) → Contains numbers j → ¬ IsFalseAt c j

-- the slice has this atom, no integers satisfy it, and some satisfy each that comes before it
pub record IsFirstFalse (c : PlainCondition) (s : PlainSlice) (j : ℕ) : Type 0 where
  pub in_slice : Contains s.atoms j
  pub is_false : IsFalseAt c j
  pub first : (i : ℕ) → Contains s.atoms i → i < j → ¬ IsFalseAt c i

-- the values of the slice's variables, in the order of their numbers in the key
abbrev pub point_of : List ℕ → List ℤ → List ℤ
point_of order values = map (λ v. value_at values v) order

-- every atom of the slice as written holds
abbrev pub SliceHolds : PlainCondition → PlainSlice → List ℤ → Type 0
SliceHolds c s values = All (λ atom. AtomHolds atom values) (atoms_of c s)

-- at an assignment the atoms of the slice hold where the key holds at its point, and nowhere else
abbrev pub HaveSameSolutions : PlainCondition → PlainSlice → List ℕ → List PlainKeyAtom → Type 0
HaveSameSolutions c s order key =
    (values : List ℤ) → IsAssignment c.vars values → SliceHolds c s values ↔ KeyHolds key (point_of order values)

-- a point that satisfies the key lies within the bounds of the slice's variables
abbrev pub KeepsBounds : PlainCondition → List ℕ → List PlainKeyAtom → Type 0
KeepsBounds c order key = (point : List ℤ) → KeyHolds key point → (v : ℕ) → v < length order
    → IsSomeAnd (slice_get c.vars (slice_index order v)) (λ var. InBounds var (value_at point v))

-- the slice has this key, and these are its variables in the order of their numbers
pub record IsCanonised (c : PlainCondition) (s : PlainSlice) (order : List ℕ) (key : List PlainKeyAtom) : Type 0 where
  pub none_false : NoneIsFalseAmong c s.atoms
  pub numbered : order ≡ order_of c s
  pub vars : (v : ℕ) → Contains order v ↔ Contains s.vars v
  pub is_key : IsKeyOf c s key
  pub width : key_width key ≡ length order
  pub same : HaveSameSolutions c s order key
  pub bounds : KeepsBounds c order key
  pub bounded : IsBounded key
