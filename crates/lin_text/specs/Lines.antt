-- Bytes, lines and positions.
use Rattle.std.specs.Prelude.{◌≡◌, ℕ, ◌+◌, ◌-◌, ◌≤◌, min, ◌⊎◌, slice_index, Bool, true, not, ◌||◌, ◌&&◌, ◌==◌, List, []}
use Rattle.std.specs.Prelude.{◌∷◌, length, take, drop, count_by, if◌then◌else◌}
use Rattle.std.specs.List.{prefix_len, suffix_len}

-- a line feed, which ends a line
abbrev pub is_feed : ℕ → Bool
is_feed b = b == 10

-- a byte that doesn't end the line
abbrev pub is_in_line : ℕ → Bool
is_in_line b = not (is_feed b)

-- a space, a tab or a carriage return
abbrev pub is_blank : ℕ → Bool
is_blank b = b == 32 || b == 9 || b == 13

-- how many line feeds stand before the place, and 1
abbrev pub line_number : List ℕ → ℕ → ℕ
line_number bytes at = 1 + count_by is_feed (take at bytes)

-- how many bytes of its line stand before the place, and 1
abbrev pub column : List ℕ → ℕ → ℕ
column bytes at = 1 + suffix_len is_in_line (take at bytes)

-- the line is over, or begins with `#`
abbrev pub ends_or_comments : List ℕ → Bool
ends_or_comments [] = true
ends_or_comments (b ∷ bs) = is_feed b || b == 35

-- the line that begins here has blanks alone, or is a comment
unfoldable pub is_skipped : List ℕ → Bool
is_skipped bytes = ends_or_comments (drop (prefix_len is_blank bytes) bytes)

-- the first place from `at` on at which a line begins that isn't skipped, or the end; `begins` says whether a line
-- begins at `at`
unfoldable pub first_line : Bool → ℕ → List ℕ → ℕ
first_line begins at [] = at
first_line begins at (b ∷ bs) = if begins && not (is_skipped (b ∷ bs)) then at else first_line (is_feed b) (at + 1) bs

-- the start of the first line from `at`, where a line begins, that isn't skipped; or the end of the input
abbrev pub line_from : List ℕ → ℕ → ℕ
line_from bytes at = first_line true at (drop at bytes)

-- just past the last byte of the line that goes through `at`
abbrev pub line_end : List ℕ → ℕ → ℕ
line_end bytes at = at + prefix_len is_in_line (drop at bytes)

-- the start of the line below, or the end of the input
abbrev pub line_below : List ℕ → ℕ → ℕ
line_below bytes at = min (line_end bytes at + 1) (length bytes)

-- a line begins here, or the input ends
pub record StartsLine (bytes : List ℕ) (at : ℕ) : Type 0 where
  pub within : at ≤ length bytes
  pub begins : (at ≡ 0) ⊎ (at ≡ length bytes) ⊎ (slice_index bytes (at - 1) ≡ 10)
