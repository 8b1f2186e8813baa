-- The keys of a query's slices.
use Rattle.std.specs.Prelude.{ℕ, ◌≤◌, min, nat_lt, if◌then◌else◌, Option, Some, None, IsSomeAnd, ℤ, List, [], ◌∷◌}
use Rattle.std.specs.Prelude.{length, Contains}
use Rattle.std.specs.List.{All, AllZip, slice_get}
use Rattle.lin_model.specs.Conditions.{PlainCondition}
use Rattle.lin_model.specs.Key.{IsKey}
use Rattle.lin_model.specs.Truth.{AtomHolds, IsAssignment}
use Rattle.slicer.specs.Slices.{PlainSlice, AreSlices}
use Rattle.slicer.specs.Names.{NamesNothingAt}
use Rattle.canoniser.specs.declared.canonical.Canonical.{Canonical}
use Rattle.canoniser.specs.declared.canonical.Canonical.TheVariants.{False, Key}
use Rattle.canoniser.specs.Solutions.{IsCanonised}
use Rattle.pipeline.specs.declared.slice_keys.SliceKey.{SliceKey}
use Rattle.pipeline.specs.declared.slice_keys.Keyed.{Keyed}
use Rattle.pipeline.specs.declared.slice_keys.Keyed.TheVariants.{False as FalseAtom, Keys}
use Rattle.pipeline.specs.Answers.{NoneIsFalse, IsLeastFalse}

-- there is an atom of this number, and it holds
abbrev pub HoldsAt : PlainCondition → List ℤ → ℕ → Type 0
HoldsAt q values j = IsSomeAnd (slice_get q.atoms j) (λ atom. AtomHolds atom values)

-- the key and the way back of a slice
abbrev pub IsKeyed : PlainCondition → PlainSlice → SliceKey → Type 0
IsKeyed q slice k = IsCanonised q slice k.back k.key

-- the key keeps the limits of its type
abbrev pub KeepsKeyLimits : SliceKey → Type 0
KeepsKeyLimits k = IsKey k.key

-- each atom is satisfied by some integers, those without variables hold, and these are the keys of the slices with
-- variables, at most 64 and within their limits
pub record AreKeyed (q : PlainCondition) (keys : List SliceKey) : Type 0 where
  pub slices : List PlainSlice
  pub are : AreSlices q slices
  pub each : AllZip (IsKeyed q) are.classes keys
  pub few : length keys ≤ 64
  pub limits : All KeepsKeyLimits keys
  pub none_false : NoneIsFalse q
  pub variable_free : (values : List ℤ) → IsAssignment q.vars values → (j : ℕ) → NamesNothingAt q.atoms j
      → HoldsAt q values j

-- the query has slices, and this is its least atom that no integers satisfy
pub record HasLeastFalse (q : PlainCondition) (j : ℕ) : Type 0 where
  pub slices : List PlainSlice
  pub are : AreSlices q slices
  pub least : IsLeastFalse q j

-- what the slices of the query came to
abbrev pub IsKeyedQuery : PlainCondition → Keyed → Type 0
IsKeyedQuery q (FalseAtom j) = HasLeastFalse q j
IsKeyedQuery q (Keys keys) = AreKeyed q keys.items

-- ---- of what the slices come to

-- it is a key
abbrev pub HasKey : Canonical → Type 0
HasKey (False j) = ⊥
HasKey (Key key back) = Unit {0}

-- no lesser number is false
abbrev pub IsNotBelow : ℕ → Canonical → Type 0
IsNotBelow j (False i) = j ≤ i
IsNotBelow j (Key key back) = Unit {0}

-- the least of the numbers that are false
pub record IsLeastFalseAmong (canonicals : List Canonical) (j : ℕ) : Type 0 where
  pub one : Contains canonicals (False j)
  pub least : All (IsNotBelow j) canonicals

-- the lesser of a number, which may be missing, and that of one more atom, if it is one
abbrev pub least_with : Option ℕ → Canonical → Option ℕ
least_with None (False j) = Some j
least_with (Some i) (False j) = Some (min i j)
least_with least (Key key back) = least

-- the keys of slices with variables
abbrev pub keys_in : List Canonical → List SliceKey
keys_in [] = []
keys_in (False j ∷ canonicals) = keys_in canonicals
keys_in (Key key back ∷ canonicals) = if nat_lt 0 (length back) then record {
  key = key;
  back =
      back;
} ∷ keys_in canonicals else keys_in canonicals
