-- Sets of places.
use Rattle.std.specs.Prelude.{◌≡◌, ℕ, zero, suc, ◌+◌, ◌/◌, ◌%◌, ◌<◌, bit_and, List, [], ◌∷◌, ◌++◌, slice_index_or}
use Rattle.std.specs.Int.{bit_at}
use Rattle.std.specs.Int.RustNames.{bit_or, bit_xor}
use Rattle.sat_trie.specs.declared.left.Left.{Left}

-- 1 where the place is in the set that these words are, and else 0
unfoldable pub has_place : List ℕ → ℕ → ℕ
has_place words place = bit_at (slice_index_or words (place / 64) 0) (place % 64)

-- the place alone, or none where the number is 0
unfoldable pub place_if : ℕ → ℕ → List ℕ
place_if zero place = []
place_if (suc n) place = place ∷ []

-- the places below this one that are in the set, in their order
unfoldable pub places_in : List ℕ → ℕ → List ℕ
places_in words zero = []
places_in words (suc n) = places_in words n ++ place_if (has_place words n) n

-- every place up to 384 is left, of which so many are counted, with these needs
pub record IsFull (counted needed : ℕ) (left : Left) : Type 0 where
  pub places : (place : ℕ) → place < 384 → has_place left.words place ≡ 1
  pub count : left.count ≡ counted
  pub needs : left.needs ≡ needed

-- one place less is left
pub record IsWithoutPlace (old : Left) (place : ℕ) (new : Left) : Type 0 where
  pub less : has_place new.words place ≡ 0
  pub others : (other : ℕ) → ¬ (other ≡ place) → has_place new.words other ≡ has_place old.words other
  pub count : new.count + 1 ≡ old.count
  pub needs : new.needs ≡ old.needs

-- the bits of needs without those that are gone, and with those that are kept
abbrev pub needs_left : ℕ → ℕ → ℕ → ℕ
needs_left needs gone kept = bit_or (bit_xor needs (bit_and needs gone)) kept
