-- What is asked of pairs of a key and a number: the least number of a key that passes, and how many prefixes the keys have.
use Rattle.std.specs.Prelude.{◌≡◌, ℕ, ◌<◌, ◌≤◌, Option, Some, None, All, Any, List, [], ◌++◌, length, Contains}
use Rattle.std.specs.Prelude.{slice_index_or}
use Rattle.lin_model.specs.KeyAtom.{PlainKeyAtom}
use Rattle.key_tree.specs.Tree.{Pair}

-- the least number of a pair whose key passes, or none where no key does
pub record IsLeastAt (Passes : List PlainKeyAtom → Type 0) (pairs : List Pair) (number : ℕ) : Type 0 where
  pub here : Any (λ p. (p.number ≡ number) × Passes p.key) pairs
  pub least : All (λ p. Passes p.key → number ≤ p.number) pairs

abbrev pub IsLeastOf : (List PlainKeyAtom → Type 0) → List Pair → Option ℕ → Type 0
IsLeastOf Passes pairs None = All (λ p. ¬ Passes p.key) pairs
IsLeastOf Passes pairs (Some number) = IsLeastAt Passes pairs number

-- the list begins with the other
pub record BeginsWith (key prefix : List PlainKeyAtom) : Type 0 where
  pub rest : List PlainKeyAtom
  pub is : key ≡ prefix ++ rest

-- so many lists, other than the empty one, are prefixes of keys: they can be listed, each once
pub record HavePrefixes (pairs : List Pair) (count : ℕ) : Type 0 where
  pub prefixes : List (List PlainKeyAtom)
  pub counted : length prefixes ≡ count
  pub once : (i j : ℕ) → i < j → j < count → ¬ (slice_index_or prefixes i [] ≡ slice_index_or prefixes j [])
  pub each_is : All (λ prefix. (0 < length prefix) × Any (λ p. BeginsWith p.key prefix) pairs) prefixes
  pub all : (prefix : List PlainKeyAtom) → 0 < length prefix → Any (λ p. BeginsWith p.key prefix) pairs
      → Contains prefixes prefix
