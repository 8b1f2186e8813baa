-- What an append does to a journal.
use Rattle.std.specs.Prelude.{◌≡◌, ℕ, ◌+◌, ◌<◌, ◌≤◌, true, false, ◌++◌, length}
use Rattle.cert_check.specs.declared.entry.Entry.{Entry}
use Rattle.cert_check.specs.declared.saved.Saved.{Saved}
use Rattle.cert_check.specs.declared.saved.Saved.TheVariants.{At, Fault, Full, Off}
use Rattle.cert_check.specs.Calls.{writes_by}
use Rattle.entry_codec.specs.Frames.{frame_of}
use Rattle.outside.specs.Counts.{Rose}
use Rattle.outside.specs.Crash.{TearsAt, WritesAt}
use Rattle.outside.specs.Runs.{IsSettled, LeavesOnly}
use Rattle.outside.specs.States.{DiskState}
use Rattle.journal.specs.declared.limits.TheConstants.{MAX_FILE, MAX_ENTRIES}
use Rattle.journal.specs.Files.{BeginsWith, HasNoRoom, end_of}
use Rattle.journal.specs.Journals.{PlainJournal, origin_of, list_of}

-- the journal is on, and has room for the entry
pub record HasRoom {D : Type 0} (journal : PlainJournal D) (entry : Entry) : Type 0 where
  pub on : journal.off ≡ false
  pub few : length (list_of journal) < MAX_ENTRIES
  pub short : end_of (list_of journal) + length (frame_of entry) ≤ MAX_FILE

-- there was room, and the frame of the entry stands at the end that the list had
pub record IsSavedAt {D : Type 0} (state : D → DiskState) (entry : Entry) (at : ℕ) (old new : PlainJournal D) : Type 0
  where
    pub room : HasRoom old entry
    pub place : at ≡ end_of (list_of old)
    pub written : WritesAt (state old.disk).content (state new.disk).content at (frame_of entry)

-- there was room, but the disk failed: only bytes of the frame's range may have changed
pub record IsNotSaved {D : Type 0} (state : D → DiskState) (entry : Entry) (old new : PlainJournal D) : Type 0 where
  pub room : HasRoom old entry
  pub rose : Rose (state old.disk).faults (state new.disk).faults
  pub torn : TearsAt (state old.disk).content (state new.disk).content (end_of (list_of old)) (length (frame_of entry))

-- the journal is on and has no room; the disk is left alone
pub record IsRefusedRoom {D : Type 0} (entry : Entry) (old new : PlainJournal D) : Type 0 where
  pub on : old.off ≡ false
  pub no_room : HasNoRoom (list_of old) entry
  pub untouched : new.disk ≡ old.disk

-- the journal is off
pub record IsLeftAlone {D : Type 0} (old new : PlainJournal D) : Type 0 where
  pub off : old.off ≡ true
  pub untouched : new.disk ≡ old.disk

-- what became of the entry
abbrev pub SavesAs : {D : Type 0} → (D → DiskState) → Entry → PlainJournal D → PlainJournal D → Saved → Type 0
SavesAs state entry old new (At at) = IsSavedAt state entry at old new
SavesAs state entry old new Fault = IsNotSaved state entry old new
SavesAs state entry old new Full = IsRefusedRoom entry old new
SavesAs state entry old new Off = IsLeftAlone old new

-- The entry was appended for a seat, or wasn't, as the answer says. At each moment of the call a crash leaves a file that
-- begins with the list of before, if nothing was pending when the journal was made.
pub record Appends {D : Type 0} (state : D → DiskState) (seat : ℕ) (entry : Entry) (old new : PlainJournal D)
    (saved : Saved) : Type 0
  where
    pub same : origin_of new ≡ origin_of old
    pub wrotes : new.wrotes ≡ old.wrotes ++ writes_by seat entry saved
    pub how : SavesAs state entry old new saved
    pub survives : old.off ≡ false → IsSettled (state old.made)
        → LeavesOnly (state old.disk) (state new.disk) (λ image. BeginsWith image (list_of old))
