-- What a file recovers to, whatever made it.
use Rattle.std.specs.Prelude.{◌≡◌, ◌≢◌, ◌⊎◌, ℕ, ◌<◌, ◌≤◌, Option, Some, None, List, [], ◌++◌, length, take}
use Rattle.std.specs.List.{All}
use Rattle.cert_check.specs.declared.entry.Entry.{Entry}
use Rattle.entry_codec.specs.declared.fault.FrameEnd.TheVariants.{Ended, NoMemory}
use Rattle.entry_codec.specs.Answers.{IsFrameEnd}
use Rattle.entry_codec.specs.Frames.{IsFrame}
use Rattle.journal.specs.declared.limits.TheConstants.{HEADER, MAX_ENTRIES}
use Rattle.journal.specs.declared.recovered.Recovered.{Recovered}
use Rattle.journal.specs.declared.recovered.Stop.{Stop}
use Rattle.journal.specs.declared.recovered.Stop.TheVariants.{Frame, TooMany}
use Rattle.journal.specs.Files.{IsStorable, AreStorable, GoesOnWith, end_of}

-- no frame of an entry whose evidence checks stands in front of the bytes
abbrev pub NoFrame : List ℕ → Type 0
NoFrame bytes = (e : Entry) (taken : ℕ) → ¬ IsFrame bytes e taken

-- a file that a crash of its first opening can leave: at most 8 bytes that aren't the header
pub record IsUnbegun (file : List ℕ) : Type 0 where
  pub short : length file ≤ length HEADER
  pub other : file ≢ HEADER

-- a file that is no journal: more than 8 bytes, of which the first 8 aren't the header
pub record IsForeign (file : List ℕ) : Type 0 where
  pub long : length HEADER < length file
  pub other : take (length HEADER) file ≢ HEADER

-- The header, and then the longest run of frames: of 2^20 entries, or up to where no frame stands.
pub record IsJournal (file : List ℕ) (entries : List Entry) (rest : List ℕ) : Type 0 where
  pub parts : GoesOnWith file entries rest
  pub each : All IsStorable entries
  pub few : length entries ≤ MAX_ENTRIES
  pub longest : (length entries ≡ MAX_ENTRIES) ⊎ NoFrame rest

-- a file that isn't begun has no entries
pub record HasNothing (file : List ℕ) (entries : List Entry) (rest : List ℕ) : Type 0 where
  pub unbegun : IsUnbegun file
  pub no_entry : entries ≡ []
  pub no_rest : rest ≡ []

-- the file recovers to these entries, and these bytes stand behind their frames
abbrev pub LeavesRest : List ℕ → List Entry → List ℕ → Type 0
LeavesRest file entries rest = HasNothing file entries rest ⊎ IsJournal file entries rest

-- the file recovers to these entries; a foreign one to none, not even to none of them
abbrev pub RecoversTo : List ℕ → List Entry → Type 0
RecoversTo file entries = (rest : List ℕ) × LeavesRest file entries rest

-- why the run ends where these bytes stand behind it: with the file, at 2^20 entries, or where no frame stands
abbrev pub StopsFor : List Entry → List ℕ → Option Stop → Type 0
StopsFor entries rest None = rest ≡ []
StopsFor entries rest (Some TooMany) = (rest ≢ []) × (length entries ≡ MAX_ENTRIES)
StopsFor entries rest (Some (Frame end)) = (rest ≢ []) × (length entries < MAX_ENTRIES) × IsFrameEnd rest end

-- what was recovered is what the file recovers to
pub record IsRecovered (file : List ℕ) (recovered : Recovered) : Type 0 where
  pub rest : List ℕ
  pub entries : LeavesRest file recovered.entries.items rest
  pub end : recovered.end_at ≡ end_of recovered.entries.items
  pub stopped : StopsFor recovered.entries.items rest recovered.stopped

-- ---- on any disk, also one that tells nothing

-- a run of these entries may end for this
abbrev pub MayStop : List Entry → Option Stop → Type 0
MayStop entries None = Unit {0}
MayStop entries (Some TooMany) = length entries ≡ MAX_ENTRIES
MayStop entries (Some (Frame end)) = (length entries < MAX_ENTRIES) × (end ≢ Ended) × (end ≢ NoMemory)

-- entries that a journal can hold, the end behind them, and a stop that can come there
pub record IsInOrder (found : Recovered) : Type 0 where
  pub storable : AreStorable found.entries.items
  pub end : found.end_at ≡ end_of found.entries.items
  pub stop : MayStop found.entries.items found.stopped

-- ---- files that recover alike

-- what the file recovered to, the other one recovers to
abbrev pub KeepsEntries : List ℕ → List ℕ → Type 0
KeepsEntries file other = (entries : List Entry) → RecoversTo file entries → RecoversTo other entries

-- the file is no foreign one, and what it recovers to begins with these entries
pub record HoldsAtLeast (file : List ℕ) (front : List Entry) : Type 0 where
  pub own : ¬ IsForeign file
  pub begins : (entries : List Entry) → RecoversTo file entries → (behind : List Entry) × (entries ≡ front ++ behind)
