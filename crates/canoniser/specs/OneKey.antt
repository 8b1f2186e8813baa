-- Each slice comes to one thing alone.
use Rattle.std.specs.Prelude.{◌≡◌, ◌≢◌, ℕ, ◌^◌, ◌<◌, ◌≤◌, List, length, All, AllPairs}
use Rattle.lin_model.specs.Conditions.{PlainCondition, IsCondition}
use Rattle.lin_model.specs.KeyAtom.{PlainKeyAtom}
use Rattle.lin_model.specs.Key.{IsKey, key_width}
use Rattle.slicer.specs.Slices.{PlainSlice}
use Rattle.canoniser.specs.declared.canonical.Canonical.{Canonical}
use Rattle.canoniser.specs.declared.canonical.Canonical.TheVariants.{False, Key}
use Rattle.canoniser.specs.Answers.{Canonises}
use Rattle.canoniser.specs.Keys.{IsSliceIn, IsKeyOf}
use Rattle.canoniser.specs.Solutions.{IsFirstFalse}

-- the limits of the types that hold a key and the way back
pub record AreWithinLimits (atoms : List PlainKeyAtom) (order : List ℕ) : Type 0 where
  pub key : IsKey atoms
  pub width : key_width atoms ≤ 64
  pub distinct : AllPairs ◌≢◌ order
  pub few : length order ≤ 64
  pub numbers : All (λ v. v < 2 ^ 32) order

-- the limits of the types that hold what a slice comes to
abbrev pub IsWithinLimits : Canonical → Type 0
IsWithinLimits (False j) = j < 2 ^ 32
IsWithinLimits (Key key order) = AreWithinLimits key order

-- the slice comes to something, which the types can hold
pub record HasCanonical (c : PlainCondition) (s : PlainSlice) : Type 0 where
  pub canonical : Canonical
  pub limits : IsWithinLimits canonical
  pub canonises : Canonises c s canonical

-- each slice of a condition comes to something
abbrev pub EachHasCanonical : Type 0
EachHasCanonical = (c : PlainCondition) (s : PlainSlice) → IsCondition c → IsSliceIn c s → HasCanonical c s

-- all that a slice comes to is the same; it has one key, or an atom that no integers satisfy, and not both
pub record HasOneCanonical (c : PlainCondition) (s : PlainSlice) : Type 0 where
  pub one : (canonical other : Canonical) → Canonises c s canonical → Canonises c s other → canonical ≡ other
  pub one_key : (key other : List PlainKeyAtom) → IsKeyOf c s key → IsKeyOf c s other → key ≡ other
  pub not_both : (key : List PlainKeyAtom) (j : ℕ) → IsKeyOf c s key → ¬ IsFirstFalse c s j

-- each slice comes to one thing alone
abbrev pub KeysAreUnique : Type 0
KeysAreUnique = (c : PlainCondition) (s : PlainSlice) → HasOneCanonical c s
