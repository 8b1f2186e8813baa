-- What putting a frame at the end of a journal's list does to its disk.
use Rattle.std.specs.Prelude.{◌≡◌, ◌⊎◌, ℕ, ◌+◌, ◌<◌, ◌≤◌, List, length}
use Rattle.cert_check.specs.declared.saved.Saved.{Saved}
use Rattle.cert_check.specs.declared.saved.Saved.TheVariants.{At, Fault, Full, Off}
use Rattle.outside.specs.Counts.{Rose}
use Rattle.outside.specs.Crash.{TearsAt}
use Rattle.outside.specs.States.{DiskState}
use Rattle.journal.specs.declared.limits.TheConstants.{MAX_FILE, MAX_ENTRIES}
use Rattle.journal.specs.Saving.{Saves, TearsAtMost}

-- behind a list of so many entries, which ends there, is room for one more, of so many bytes
pub record IsRoom (at count n : ℕ) : Type 0 where
  pub few : count < MAX_ENTRIES
  pub short : at + n ≤ MAX_FILE

-- there is no room for it
abbrev pub IsNoRoom : ℕ → ℕ → ℕ → Type 0
IsNoRoom at count n = (MAX_FILE < at + n) ⊎ (count ≡ MAX_ENTRIES)

-- there was room, and the frame stands there and is on the disk
pub record IsPutAt {D : Type 0} (state : D → DiskState) (at count : ℕ) (frame : List ℕ) (old new : D) (place : ℕ)
    : Type 0
  where
    pub room : IsRoom at count (length frame)
    pub here : place ≡ at
    pub saves : Saves at frame (state old) (state new)

-- there was room, but the disk failed
pub record IsNotPut {D : Type 0} (state : D → DiskState) (at count : ℕ) (frame : List ℕ) (old new : D) : Type 0 where
  pub room : IsRoom at count (length frame)
  pub rose : Rose (state old).faults (state new).faults
  pub torn : TearsAt (state old).content (state new).content at (length frame)

-- what became of the frame
abbrev pub PutsAs : {D : Type 0} → (D → DiskState) → ℕ → ℕ → List ℕ → D → D → Saved → Type 0
PutsAs state at count frame old new (At place) = IsPutAt state at count frame old new place
PutsAs state at count frame old new Fault = IsNotPut state at count frame old new
PutsAs state at count frame old new Full = IsNoRoom at count (length frame) × (new ≡ old)
PutsAs state at count frame old new Off = ⊥

-- the frame was put at the end of a list of so many entries, or wasn't, as the answer says
pub record Puts {D : Type 0} (state : D → DiskState) (at count : ℕ) (frame : List ℕ) (old new : D) (saved : Saved)
    : Type 0
  where
    pub how : PutsAs state at count frame old new saved
    pub at_most : TearsAtMost at (length frame) (state old) (state new)
