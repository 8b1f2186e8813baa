-- A write that was done.
use Rattle.std.specs.Prelude.{ℕ, List, length, take, drop}

-- the number of its call, the place and the whole piece; then what it takes to undo it: the bytes that it overwrote,
-- and the length of the file before
pub record PastWriteState : Type 0 where
  pub call : ℕ
  pub at : ℕ
  pub piece : List ℕ
  pub overwritten : List ℕ
  pub len : ℕ

-- what is remembered of a write of the first `done` bytes of a piece over this file
abbrev pub write_over : List ℕ → ℕ → ℕ → List ℕ → ℕ → PastWriteState
write_over file call at piece done = record {
  call = call;
  at = at;
  piece = piece;
  overwritten = take done (drop at file);
  len = length file;
}
