-- What contracts see of a source, a sink and a disk. Each count of faults stands still at 2^64 - 1.
use Rattle.std.specs.Prelude.{ℕ, Bool, List, Option}

-- a source: the bytes left, where it tells them, and how often it has failed
pub record SourceState : Type 0 where
  pub left : Option (List ℕ)
  pub faults : ℕ

-- a sink: the bytes taken, where it tells them, and how often it has failed
pub record SinkState : Type 0 where
  pub taken : Option (List ℕ)
  pub faults : ℕ

-- A disk: the name of the file that was chosen last, as bytes, and none before the first `bind` that succeeds; what a
-- read gives, where the disk tells it; whether it tells the images that a crash may leave, and whether these keep the
-- rules; the images that a crash now may leave; the moment, as a number; the images that a crash at some moment from
-- an earlier one on might have left, during a call or between two; and how often it has failed.
pub record DiskState : Type 1 where
  pub name : Option (List ℕ)
  pub content : Option (List ℕ)
  pub tells_images : Bool
  pub keeps_rules : Bool
  pub may_leave : List ℕ → Type 0
  pub moment : ℕ
  pub left_since : ℕ → List ℕ → Type 0
  pub faults : ℕ
