-- What opening a file as a journal does to its disk.
use Rattle.std.specs.Prelude.{◌≡◌, ◌⊎◌, ℕ, ◌≤◌, Option, Some, None, IfSome, List, length}
use Rattle.outside.specs.Counts.{Rose}
use Rattle.outside.specs.Runs.{IsSettled, LeavesOnly, OnlyLooks}
use Rattle.outside.specs.States.{DiskState}
use Rattle.journal.specs.declared.limits.TheConstants.{HEADER}
use Rattle.journal.specs.declared.recovered.Recovered.{Recovered}
use Rattle.journal.specs.declared.recovered.StartFault.{StartFault}
use Rattle.journal.specs.declared.recovered.StartFault.TheVariants.{Disk, NotJournal, NoMemory}
use Rattle.journal.specs.Recovery.{IsForeign, IsRecovered, IsUnbegun, KeepsEntries}

-- the disk has the name that it had and tells what it told, and its faults are no fewer
pub record IsSameDisk (old new : DiskState) : Type 0 where
  pub name : new.name ≡ old.name
  pub telling : new.tells_images ≡ old.tells_images
  pub rules : new.keeps_rules ≡ old.keeps_rules
  pub faults : old.faults ≤ new.faults

-- what became of a file that the disk tells
abbrev pub FileBecomes : (List ℕ → List ℕ → Type 0) → Option (List ℕ) → Option (List ℕ) → Type 0
FileBecomes How None new = new ≡ None
FileBecomes How (Some file) new = (now : List ℕ) × (new ≡ Some now) × How file now

-- a file that wasn't begun has the header, and any other is as it was
abbrev pub IsBegun : List ℕ → List ℕ → Type 0
IsBegun file now = (IsUnbegun file × (now ≡ HEADER)) ⊎ ((¬ IsUnbegun file) × (now ≡ file))

-- a file that wasn't begun has at most 8 bytes, and any other is as it was
abbrev pub IsLeft : List ℕ → List ℕ → Type 0
IsLeft file now = (IsUnbegun file × (length now ≤ length HEADER)) ⊎ ((¬ IsUnbegun file) × (now ≡ file))

-- at each moment since a disk on which nothing was pending, a crash leaves a file that recovers to what it did
abbrev pub EntriesSurvive : DiskState → DiskState → Type 0
EntriesSurvive old new = IsSettled old → IfSome old.content (λ file. LeavesOnly old new (KeepsEntries file))

-- a file that was begun, or is foreign, is not written to
abbrev pub LooksIfBegun : DiskState → DiskState → Type 0
LooksIfBegun old new = IfSome old.content (λ file. ¬ IsUnbegun file → OnlyLooks old new)

-- the file was opened, and this was recovered
pub record Opens (found : Recovered) (old new : DiskState) : Type 0 where
  pub same : IsSameDisk old new
  pub recovered : IfSome old.content (λ file. IsRecovered file found)
  pub begun : FileBecomes IsBegun old.content new.content
  pub unwritten : LooksIfBegun old new
  pub settled : IsSettled old → IsSettled new
  pub survives : EntriesSurvive old new

-- why a file can't be read as a journal: the disk failed, or the file is foreign; want of memory needs no cause
abbrev pub start_cause : DiskState → DiskState → StartFault → Type 0
start_cause old new Disk = Rose old.faults new.faults
start_cause old new NotJournal = IfSome old.content IsForeign
start_cause old new NoMemory = Unit {0}

-- only a disk that failed may have been written to, where its file wasn't begun
abbrev pub IsUnwritten : StartFault → DiskState → DiskState → Type 0
IsUnwritten Disk old new = LooksIfBegun old new
IsUnwritten NotJournal old new = OnlyLooks old new
IsUnwritten NoMemory old new = OnlyLooks old new

-- the file wasn't opened, for this fault
pub record FailsToOpen (fault : StartFault) (old new : DiskState) : Type 0 where
  pub same : IsSameDisk old new
  pub cause : start_cause old new fault
  pub unwritten : IsUnwritten fault old new
  pub left : FileBecomes IsLeft old.content new.content
  pub survives : EntriesSurvive old new
