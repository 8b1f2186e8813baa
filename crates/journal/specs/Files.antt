-- Files of entries: a header, and then the frames of the entries.
use Rattle.std.specs.Prelude.{◌≡◌, ◌⊎◌, ℕ, ◌+◌, ◌<◌, ◌≤◌, List, [], ◌++◌, length, take, flat_map}
use Rattle.std.specs.List.{All}
use Rattle.cert_check.specs.declared.entry.Entry.{Entry}
use Rattle.cert_check.specs.Decides.{IsChecked}
use Rattle.entry_codec.specs.Frames.{FitsFrame, frame_of}
use Rattle.journal.specs.declared.limits.TheConstants.{HEADER, MAX_FILE, MAX_ENTRIES}

-- the bytes that count
abbrev pub counted : List ℕ → List ℕ
counted file = take MAX_FILE file

-- the frames of entries, one behind another
abbrev pub frames_of : List Entry → List ℕ
frames_of entries = flat_map frame_of entries

-- the place behind the header and the frames of these entries
abbrev pub end_of : List Entry → ℕ
end_of entries = length HEADER + length (frames_of entries)

-- an entry that a journal can hold: it fits a frame, and its evidence checks
pub record IsStorable (e : Entry) : Type 0 where
  pub fits : FitsFrame e
  pub checked : IsChecked e

-- entries that a journal can hold together
pub record AreStorable (entries : List Entry) : Type 0 where
  pub each : All IsStorable entries
  pub few : length entries ≤ MAX_ENTRIES
  pub short : end_of entries ≤ MAX_FILE

-- there is no room behind the entries for one more
abbrev pub HasNoRoom : List Entry → Entry → Type 0
HasNoRoom entries e = (MAX_FILE < end_of entries + length (frame_of e)) ⊎ (length entries ≡ MAX_ENTRIES)

-- The file begins with the header and the frames of these entries, and goes on with these bytes.
pub record GoesOnWith (file : List ℕ) (entries : List Entry) (rest : List ℕ) : Type 0 where
  pub spelled : counted file ≡ HEADER ++ (frames_of entries ++ rest)

-- it goes on somehow
abbrev pub BeginsWith : List ℕ → List Entry → Type 0
BeginsWith file entries = (rest : List ℕ) × GoesOnWith file entries rest

-- it doesn't go on
abbrev pub HasJust : List ℕ → List Entry → Type 0
HasJust file entries = GoesOnWith file entries []
