-- What reading a file frame by frame finds.
use Rattle.std.specs.Prelude.{◌≡◌, ◌≢◌, ℕ, ◌+◌, ◌≤◌, Bool, true, false, Option, Some, None, Result, Ok, Err, List}
use Rattle.std.specs.Prelude.{length, take, drop}
use Rattle.cert_check.specs.declared.entry.Entry.{Entry}
use Rattle.entry_codec.specs.declared.fault.FrameEnd.{FrameEnd}
use Rattle.entry_codec.specs.declared.fault.FrameEnd.TheVariants.{Ended, NoMemory}
use Rattle.entry_codec.specs.declared.limits.TheConstants.{MAX_BODY}
use Rattle.entry_codec.specs.Frames.{frame_of}
use Rattle.entry_codec.specs.Grammar.{Begins}
use Rattle.entry_codec.specs.Numbers.{long}
use Rattle.journal.specs.declared.limits.TheConstants.{HEADER, MAX_FILE}
use Rattle.journal.specs.declared.recovered.Stop.{Stop}
use Rattle.journal.specs.declared.recovered.Stop.TheVariants.{Frame}
use Rattle.journal.specs.Files.{IsStorable, counted}
use Rattle.journal.specs.Recovery.{IsUnbegun}

-- the file has the header
abbrev pub HasHeader : List ℕ → Type 0
HasHeader file = take (length HEADER) file ≡ HEADER

-- whether it was begun
abbrev pub IsStart : List ℕ → Bool → Type 0
IsStart file true = HasHeader file
IsStart file false = IsUnbegun file

-- the bytes that count, from this place on
abbrev pub rest_at : ℕ → List ℕ → List ℕ
rest_at at file = drop at (counted file)

-- Of a frame with these first bytes so many are worth reading: all, where it has a length within the limit.
pub record IsWholeSize (front : List ℕ) (size : ℕ) : Type 0 where
  pub some : 4 ≤ size
  pub within : size ≤ 4 + MAX_BODY
  pub said : (n : ℕ) (behind : List ℕ) → Begins long front n behind → n ≤ MAX_BODY → size ≡ 4 + n

-- the bytes are a front of the others, with a whole frame if these have one
pub record HoldsFrame (bytes others : List ℕ) : Type 0 where
  pub size : ℕ
  pub is_size : IsWholeSize (take 4 others) size
  pub front : bytes ≡ take size others

-- an entry was read whose frame takes so many bytes from this place on
pub record IsRead (at : ℕ) (e : Entry) (taken : ℕ) : Type 0 where
  pub storable : IsStorable e
  pub all : taken ≡ length (frame_of e)
  pub within : at + taken ≤ MAX_FILE

-- what was read at this place, whatever the disk tells
abbrev pub MayBeRead : ℕ → Result (Entry × ℕ) FrameEnd → Type 0
MayBeRead at (Ok found) = IsRead at found.0 found.1
MayBeRead at (Err end) = end ≢ NoMemory

-- why the run of frames ends there: with the file, or where no frame stands
abbrev pub IsStopAt : FrameEnd → Option Stop → Type 0
IsStopAt end None = end ≡ Ended
IsStopAt end (Some stop) = (stop ≡ Frame end) × (end ≢ Ended)
