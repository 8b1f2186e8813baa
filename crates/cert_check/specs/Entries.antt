-- Entries: keys with the evidence that decides them, and which keys an entry decides.
use Rattle.std.specs.Prelude.{◌≡◌, ℤ, List, length}
use Rattle.lin_model.specs.KeyAtom.{PlainKeyAtom}
use Rattle.lin_model.specs.Key.{KeyHolds, key_width}
use Rattle.refutation.specs.Tree.{PlainTree}
use Rattle.refutation.specs.Reading.{Refutes}

-- a key with a point
pub record PlainSatEntry : Type 0 where
  pub key : List PlainKeyAtom
  pub point : List ℤ

-- a key with a tree
pub record PlainUnsatEntry : Type 0 where
  pub key : List PlainKeyAtom
  pub tree : PlainTree

-- the point has one value for each variable of the key, and satisfies it
pub record IsSatisfied (e : PlainSatEntry) : Type 0 where
  pub one_each : length e.point ≡ key_width e.key
  pub holds : KeyHolds e.key e.point

-- the tree refutes the key
abbrev pub IsRefuted : PlainUnsatEntry → Type 0
IsRefuted e = Refutes e.key e.tree.nodes e.tree.terms
