-- When a canonical atom implies another, and when a key covers another.
use Rattle.std.specs.Prelude.{◌≡◌, ℤ, List, All, Any, IsTrue}
use Rattle.lin_model.specs.declared.op.Op.{Op}
use Rattle.lin_model.specs.Test.{passes}
use Rattle.lin_model.specs.KeyAtom.{PlainKeyAtom, KeyAtomHolds}
use Rattle.lin_model.specs.Key.{KeyHolds}

-- every integer that passes `op c` passes `other d`
abbrev pub TestImplies : Op → ℤ → Op → ℤ → Type 0
TestImplies op c other d = (n : ℤ) → IsTrue (passes op c n) → IsTrue (passes other d n)

-- both have one form, and no integer that passes the first test fails the second
pub record Implies (a b : PlainKeyAtom) : Type 0 where
  pub same_form : a.form ≡ b.form
  pub tests : TestImplies a.op a.constant b.op b.constant

-- each atom of the second list is implied by some atom of the first
abbrev pub Covers : List PlainKeyAtom → List PlainKeyAtom → Type 0
Covers key query = All (λ b. Any (λ a. Implies a b) key) query

-- every point at which the first atom holds is one at which the second does
abbrev pub HoldsWherever : PlainKeyAtom → PlainKeyAtom → Type 0
HoldsWherever a b = (point : List ℤ) → KeyAtomHolds a point → KeyAtomHolds b point

-- every point at which a key holds is one at which each key that it covers does
abbrev pub CoveredKeysHold : Type 0
CoveredKeysHold = (key query : List PlainKeyAtom) (point : List ℤ) → Covers key query → KeyHolds key point
    → KeyHolds query point
