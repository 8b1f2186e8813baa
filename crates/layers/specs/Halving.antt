-- Layers that are few: each is at least twice as long as the next.
use Rattle.std.specs.Prelude.{◌≡◌, ℕ, ◌+◌, ◌*◌, ◌^◌, ◌<◌, ◌≤◌, List, [], ◌∷◌, ◌++◌, length, take, drop, slice_index_or}
use Rattle.std.specs.List.{All}
use Rattle.cert_check.specs.declared.entry.Entry.{Entry}
use Rattle.cert_check.specs.Decides.{IsChecked}
use Rattle.cert_check.specs.Machine.{max_entries}
use Rattle.layers.specs.Layers.{joined}

-- no layer is empty, and each is at least twice as long as the next
pub record AreHalving (layers : List (List Entry)) : Type 0 where
  pub some : All (λ layer. 0 < length layer) layers
  pub halve : (k : ℕ) (c d : List Entry) → k + 1 < length layers
      → 2 * length (slice_index_or layers (k + 1) c) ≤ length (slice_index_or layers k d)

-- what a version keeps: its layers halve, and have together so many entries, which are checked and not too many
pub record IsVersion (layers : List (List Entry)) (count : ℕ) : Type 0 where
  pub halving : AreHalving layers
  pub counted : count ≡ length (joined layers)
  pub few : count ≤ max_entries
  pub checked : All IsChecked (joined layers)

-- the last layer before this place is at least twice as long as what is behind it, with one entry more
abbrev pub IsLongBefore : ℕ → List (List Entry) → Type 0
IsLongBefore n layers = (k : ℕ) (d : List Entry) → k + 1 ≡ n
    → 2 * (length (joined (drop n layers)) + 1) ≤ length (slice_index_or layers k d)

-- each layer from this place on is less than twice as long as what is behind it, with one entry more
abbrev pub AreShortFrom : ℕ → List (List Entry) → Type 0
AreShortFrom n layers = (k : ℕ) (d : List Entry) → n ≤ k → k < length layers
    → length (slice_index_or layers k d) < 2 * (length (joined (drop (k + 1) layers)) + 1)

-- the layers with an entry more: just those behind the last that is long became one with it, and all others stayed
pub record AreGrown (layers : List (List Entry)) (e : Entry) (grown : List (List Entry)) : Type 0 where
  pub kept : ℕ
  pub within : kept ≤ length layers
  pub layers_are : grown ≡ take kept layers ++ (joined (drop kept layers) ++ e ∷ []) ∷ []
  pub long : IsLongBefore kept layers
  pub short : AreShortFrom kept layers

-- what adding an entry makes of layers is determined
abbrev pub GrowthIsDetermined : Type 0
GrowthIsDetermined = (layers grown others : List (List Entry)) (e : Entry) → AreGrown layers e grown
    → AreGrown layers e others → grown ≡ others

-- a number is no greater than the binary digits of another: where that is below 2^k, at most k
abbrev pub IsWithinDigits : ℕ → ℕ → Type 0
IsWithinDigits number of = (k : ℕ) → of < 2 ^ k → number ≤ k
