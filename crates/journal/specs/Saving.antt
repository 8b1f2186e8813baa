-- What saving some bytes in a range of a file does to its disk.
use Rattle.std.specs.Prelude.{ℕ, List, IsTrue}
use Rattle.outside.specs.Crash.{WritesAt, Synced}
use Rattle.outside.specs.Runs.{LeavesOnly, IsTornFrom}
use Rattle.outside.specs.States.{DiskState}
use Rattle.journal.specs.Opening.{IsSameDisk}

-- the bytes were written from `at` on and are on the disk
pub record Saves (at : ℕ) (bytes : List ℕ) (old new : DiskState) : Type 0 where
  pub written : WritesAt old.content new.content at bytes
  pub durable : IsTrue old.keeps_rules → Synced new.content new.may_leave

-- At each moment a crash leaves an image of before, torn at most in the range of the bytes.
pub record TearsAtMost (at n : ℕ) (old new : DiskState) : Type 0 where
  pub same : IsSameDisk old new
  pub any_moment : IsTrue old.keeps_rules → LeavesOnly old new (IsTornFrom old at n)
