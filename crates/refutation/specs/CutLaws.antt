-- What cuts say of the points of a box.
use Rattle.std.specs.Prelude.{◌≡◌, ◌⊎◌, ℕ, ℤ, ◌≤ℤ◌, Bool, true, false, Some, List}
use Rattle.lin_model.specs.declared.op.Op.TheVariants.{Le, Ge}
use Rattle.lin_model.specs.Form.{value_at}
use Rattle.lin_model.specs.KeyAtom.{PlainKeyAtom, KeyAtomHolds, IsCanonical}
use Rattle.refutation.specs.Bounds.{PlainBounds, AreBounds, IsWithin, is_empty}
use Rattle.refutation.specs.Cut.{PlainCut, cut}

-- the number keeps the bound, an upper one where the flag is set
abbrev pub IsKept : Bool → ℤ → ℤ → Type 0
IsKept false bound n = bound ≤ℤ n
IsKept true bound n = n ≤ℤ bound

-- every point within the bounds that satisfies the atom keeps the bound that the atom gives
abbrev pub CutsKeepPoints : Type 0
CutsKeepPoints =
    (b : PlainBounds) (a : PlainKeyAtom) (v : ℕ) (c : PlainCut) (point : List ℤ) → IsCanonical a → AreBounds b
    → cut b a v ≡ Some c → IsWithin b point → KeyAtomHolds a point → IsKept c.upper c.value (value_at point v)

-- a point within the bounds that satisfies the atom, with this value
pub record HasPointAt (b : PlainBounds) (a : PlainKeyAtom) (v : ℕ) (n : ℤ) : Type 0 where
  pub point : List ℤ
  pub within : IsWithin b point
  pub holds : KeyAtomHolds a point
  pub value : value_at point v ≡ n

-- for `<=` and `>=`, where the bounds aren't empty, some such point has just the value of the cut
abbrev pub CutsAreTight : Type 0
CutsAreTight =
    (b : PlainBounds) (a : PlainKeyAtom) (v : ℕ) (c : PlainCut) → IsCanonical a → AreBounds b → is_empty b ≡ false
    → (a.op ≡ Le) ⊎ (a.op ≡ Ge) → cut b a v ≡ Some c → HasPointAt b a v c.value
