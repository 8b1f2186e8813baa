-- Why a body gives no entry, by the plain reading, and why its check gives none.
use Rattle.std.specs.Prelude.{◌≡◌, ℕ, ◌+◌, Err, List, length}
use Rattle.cert_check.specs.declared.entry.Entry.{Entry}
use Rattle.entry_codec.specs.declared.fault.FrameEnd.{FrameEnd}
use Rattle.entry_codec.specs.declared.fault.FrameEnd.TheVariants.{Ended, Short, TooLong, BadBody, Uncertified, NoMemory}
use Rattle.entry_codec.specs.Frames.{IsRefusal}
use Rattle.entry_codec.specs.EntryReading.{entry_in}

-- a body is at fault at this byte of its frame
pub record IsFaultAt (content : List ℕ) (place : ℕ) : Type 0 where
  pub left : ℕ
  pub read : entry_in content ≡ Err left
  pub here : place + left ≡ 4 + length content

-- why a body is none of an entry
abbrev pub EndsBody : List ℕ → FrameEnd → Type 0
EndsBody content Ended = ⊥
EndsBody content Short = ⊥
EndsBody content TooLong = ⊥
EndsBody content (BadBody place) = IsFaultAt content place
EndsBody content (Uncertified refused) = ⊥
EndsBody content NoMemory = Unit {0}

-- why the evidence of an entry doesn't check
abbrev pub EndsCheck : Entry → FrameEnd → Type 0
EndsCheck e Ended = ⊥
EndsCheck e Short = ⊥
EndsCheck e TooLong = ⊥
EndsCheck e (BadBody place) = ⊥
EndsCheck e (Uncertified refused) = IsRefusal e refused
EndsCheck e NoMemory = Unit {0}
