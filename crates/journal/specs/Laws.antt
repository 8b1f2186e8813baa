-- Laws of files and of what they recover to.
use Rattle.std.specs.Prelude.{◌≡◌, ℕ, ◌^◌, ◌≤◌, Option, List, [], ◌∷◌, ◌++◌, length, take, drop, Contains}
use Rattle.cert_check.specs.declared.entry.Entry.{Entry}
use Rattle.cert_check.specs.declared.wrote.Wrote.{Wrote}
use Rattle.cert_check.specs.declared.wrote.Wrote.TheVariants.{At}
use Rattle.cert_check.specs.Machine.{max_entries}
use Rattle.entry_codec.specs.Frames.{frame_of}
use Rattle.entry_codec.specs.Grammar.{IsBytes}
use Rattle.journal.specs.declared.limits.TheConstants.{HEADER, MAX_FILE, MAX_ENTRIES}
use Rattle.journal.specs.declared.recovered.Recovered.{Recovered}
use Rattle.journal.specs.declared.recovered.Stop.{Stop}
use Rattle.journal.specs.Files.{AreStorable, BeginsWith, HasJust, HasNoRoom}
use Rattle.journal.specs.Journals.{AreInPlace, saved_in}
use Rattle.journal.specs.Recovery.{HoldsAtLeast, IsForeign, IsRecovered, KeepsEntries, LeavesRest, RecoversTo, StopsFor}

-- a file recovers to one list of entries at most
abbrev pub OneListIsRecovered : Type 0
OneListIsRecovered = (file : List ℕ) (entries others : List Entry) → RecoversTo file entries → RecoversTo file others
    → entries ≡ others

-- a file has a run: it recovers to these entries, these bytes stand behind their frames, and the run ends there for this
pub record HasRun (file : List ℕ) : Type 0 where
  pub entries : List Entry
  pub rest : List ℕ
  pub leaves : LeavesRest file entries rest
  pub stop : Option Stop
  pub stops : StopsFor entries rest stop

-- each file of bytes that isn't foreign has one
abbrev pub SomeListIsRecovered : Type 0
SomeListIsRecovered = (file : List ℕ) → IsBytes file → ¬ IsForeign file → HasRun file

-- the same entries, end and reason
pub record IsSameRun (found other : Recovered) : Type 0 where
  pub entries : found.entries.items ≡ other.entries.items
  pub end : found.end_at ≡ other.end_at
  pub stopped : found.stopped ≡ other.stopped

-- of what may be told of a file of bytes one thing is right
abbrev pub OneRecoveryIsRight : Type 0
OneRecoveryIsRight = (file : List ℕ) (found other : Recovered) → IsBytes file → IsRecovered file found
    → IsRecovered file other → IsSameRun found other

-- what a file that begins with storable entries recovers to begins with them
abbrev pub FrontsAreRecovered : Type 0
FrontsAreRecovered = (file : List ℕ) (front : List Entry) → AreStorable front → BeginsWith file front
    → HoldsAtLeast file front

-- a file that has just these recovers to just these
abbrev pub JustTheseAreRecovered : Type 0
JustTheseAreRecovered = (file : List ℕ) (entries : List Entry) → AreStorable entries → HasJust file entries
    → RecoversTo file entries

-- a file that recovers to what another did has at least these entries
abbrev pub KeptEntriesAreHeld : Type 0
KeptEntriesAreHeld = (file image : List ℕ) (entries : List Entry) → RecoversTo file entries → KeepsEntries file image
    → HoldsAtLeast image entries

-- where a file begins with the list that these writes left, the frame of each entry that was saved stands at its place
abbrev pub FramesStand : Type 0
FramesStand = (opening : List Entry) (wrotes : List Wrote) (file : List ℕ) (seat at : ℕ) (entry : Entry)
    → AreInPlace opening wrotes → AreStorable (opening ++ saved_in wrotes) → BeginsWith file (opening ++ saved_in wrotes)
    → Contains wrotes (At seat at entry) → take (length (frame_of entry)) (drop at file) ≡ frame_of entry

-- where there is no room for an entry, there is none behind more entries
abbrev pub NoRoomStays : Type 0
NoRoomStays = (before behind : List Entry) (entry : Entry) → length (before ++ behind) ≤ MAX_ENTRIES
    → HasNoRoom before entry → HasNoRoom (before ++ behind) entry

-- What the bytes of every file rest on: the header is `GREENST1` in ASCII, and the limits are these numbers. A journal
-- has as many entries as a store.
pub record FileLimitsAreFixed : Type 0 where
  pub header : HEADER ≡ 71 ∷ 82 ∷ 69 ∷ 69 ∷ 78 ∷ 83 ∷ 84 ∷ 49 ∷ []
  pub file : MAX_FILE ≡ 2 ^ 28
  pub entries : MAX_ENTRIES ≡ 2 ^ 20
  pub store : MAX_ENTRIES ≡ max_entries
