-- What `read_frame` may answer, and what stands in front of bytes: of all answers one is right.
use Rattle.std.specs.Prelude.{◌≡◌, ◌⊎◌, ℕ, ◌≤◌, Result, Ok, Err, List, [], ◌++◌, length, take}
use Rattle.cert_check.specs.declared.entry.Entry.{Entry}
use Rattle.cert_check.specs.Decides.{HasEvidence, IsChecked}
use Rattle.entry_codec.specs.declared.fault.FrameEnd.{FrameEnd}
use Rattle.entry_codec.specs.declared.fault.FrameEnd.TheVariants.{Ended, Short, TooLong, BadBody, Uncertified, NoMemory}
use Rattle.entry_codec.specs.Grammar.{IsBytes}
use Rattle.entry_codec.specs.Frames.{frame_of, FitsFrame, IsFrame, IsShort, IsTooLong, IsBadAt, IsUncertified}

-- why no frame of an entry whose evidence checks stands in front of the bytes; want of memory is no reason
abbrev pub IsFrameEnd : List ℕ → FrameEnd → Type 0
IsFrameEnd bytes Ended = bytes ≡ []
IsFrameEnd bytes Short = IsShort bytes
IsFrameEnd bytes TooLong = IsTooLong bytes
IsFrameEnd bytes (BadBody place) = IsBadAt bytes place
IsFrameEnd bytes (Uncertified refused) = IsUncertified bytes refused
IsFrameEnd bytes NoMemory = ⊥

-- the end is right of the bytes, or memory ran out
abbrev pub EndsFrame : List ℕ → FrameEnd → Type 0
EndsFrame bytes end = (end ≡ NoMemory) ⊎ IsFrameEnd bytes end

-- the answer is right of the bytes; want of memory is no answer
abbrev pub IsFrameAnswer : List ℕ → Result (Entry × ℕ) FrameEnd → Type 0
IsFrameAnswer bytes (Ok found) = IsFrame bytes found.0 found.1
IsFrameAnswer bytes (Err end) = IsFrameEnd bytes end

-- ---- laws of what stands in front

-- what is written is read, whatever stands behind
abbrev pub WrittenIsRead : Type 0
WrittenIsRead =
    (e : Entry) (rest : List ℕ) → FitsFrame e → HasEvidence e → IsFrame (frame_of e ++ rest) e (length (frame_of e))

-- what a frame takes of the bytes: its own
pub record TakesFrame (bytes : List ℕ) (e : Entry) (taken : ℕ) : Type 0 where
  pub all : taken ≡ length (frame_of e)
  pub front : take taken bytes ≡ frame_of e
  pub some : 4 ≤ taken
  pub within : taken ≤ length bytes

-- a frame takes its own bytes, which are at least 4
abbrev pub FramesTakeTheirBytes : Type 0
FramesTakeTheirBytes = (bytes : List ℕ) (e : Entry) (taken : ℕ) → IsFrame bytes e taken → TakesFrame bytes e taken

-- at most one entry stands in front of any bytes
abbrev pub OneFrameStands : Type 0
OneFrameStands = (bytes : List ℕ) (e other : Entry) (taken count : ℕ) → IsFrame bytes e taken
    → IsFrame bytes other count → (e ≡ other) × (taken ≡ count)

-- what stands in front of bytes is a checked entry: its key keeps the limits of keys
abbrev pub FramesAreChecked : Type 0
FramesAreChecked = (bytes : List ℕ) (e : Entry) (taken : ℕ) → IsFrame bytes e taken → IsChecked e

-- where there is a reason why no frame stands in front, none does: so none does in front of no bytes
abbrev pub EndsExcludeFrames : Type 0
EndsExcludeFrames =
    (bytes : List ℕ) (e : Entry) (taken : ℕ) (end : FrameEnd) → IsFrameEnd bytes end → ¬ IsFrame bytes e taken

-- one answer is right of the bytes, and no other
pub record HasOneFrameAnswer (bytes : List ℕ) : Type 0 where
  pub answer : Result (Entry × ℕ) FrameEnd
  pub is : IsFrameAnswer bytes answer
  pub alone : (other : Result (Entry × ℕ) FrameEnd) → IsFrameAnswer bytes other → other ≡ answer

-- any bytes have one answer
abbrev pub BytesHaveOneAnswer : Type 0
BytesHaveOneAnswer = (bytes : List ℕ) → IsBytes bytes → HasOneFrameAnswer bytes
