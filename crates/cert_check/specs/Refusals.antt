-- Why evidence is refused, and what each refusal says.
use Rattle.std.specs.Prelude.{ℕ, ℤ, IsSomeAnd, List, take}
use Rattle.std.specs.List.{slice_get}
use Rattle.lin_model.specs.KeyAtom.{PlainKeyAtom, KeyAtomHolds}
use Rattle.lin_model.specs.Key.{KeyHolds}
use Rattle.refutation.specs.Tree.{PlainTree}
use Rattle.refutation.specs.Reading.{FailsAt, EndsEarly, GoesOn}
use Rattle.refutation.specs.declared.fault.TreeFault.{TreeFault}
use Rattle.refutation.specs.declared.fault.TreeFault.TheVariants.{NodeFails as FaultyNode, TreeEnds as FaultyEnd}
use Rattle.refutation.specs.declared.fault.TreeFault.TheVariants.{TreeGoesOn as FaultyRest, NoMemory as NoRoom}
use Rattle.cert_check.specs.declared.refused.Refused.{Refused}
use Rattle.cert_check.specs.declared.refused.Refused.TheVariants.{PointFails, NodeFails, TreeEnds, TreeGoesOn}
use Rattle.cert_check.specs.declared.refused.NotUnsat.{NotUnsat}
use Rattle.cert_check.specs.declared.refused.NotUnsat.TheVariants.{Refused as IsRefusedBy, NoMemory}

-- what the check of a tree answers, as a refusal
abbrev pub not_unsat_by : TreeFault → NotUnsat
not_unsat_by (FaultyNode i) = IsRefusedBy (NodeFails i)
not_unsat_by FaultyEnd = IsRefusedBy TreeEnds
not_unsat_by FaultyRest = IsRefusedBy TreeGoesOn
not_unsat_by NoRoom = NoMemory

-- the first atom of the key that fails at the point is the one of this number
pub record FailsFirst (key : List PlainKeyAtom) (point : List ℤ) (j : ℕ) : Type 0 where
  pub here : IsSomeAnd (slice_get key j) (λ a. ¬ KeyAtomHolds a point)
  pub before : KeyHolds (take j key) point

-- why a point doesn't satisfy a key
abbrev pub IsPointRefusal : List PlainKeyAtom → List ℤ → Refused → Type 0
IsPointRefusal key point (PointFails j) = FailsFirst key point j
IsPointRefusal key point (NodeFails i) = ⊥
IsPointRefusal key point TreeEnds = ⊥
IsPointRefusal key point TreeGoesOn = ⊥

-- why a tree doesn't refute a key
abbrev pub IsTreeRefusal : List PlainKeyAtom → PlainTree → Refused → Type 0
IsTreeRefusal key tree (PointFails j) = ⊥
IsTreeRefusal key tree (NodeFails i) = FailsAt key tree.nodes tree.terms i
IsTreeRefusal key tree TreeEnds = EndsEarly key tree.nodes tree.terms
IsTreeRefusal key tree TreeGoesOn = GoesOn key tree.nodes tree.terms

-- the same, where want of memory says nothing
abbrev pub IsNotUnsat : List PlainKeyAtom → PlainTree → NotUnsat → Type 0
IsNotUnsat key tree (IsRefusedBy refused) = IsTreeRefusal key tree refused
IsNotUnsat key tree NoMemory = Unit {0}
