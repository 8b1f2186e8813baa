-- What contracts see of a journal, and what its type keeps.
use Rattle.std.specs.Prelude.{◌≡◌, ℕ, ◌+◌, ◌-◌, ◌^◌, ◌≤◌, min, Bool, true, false, IfSome, List, [], ◌∷◌, ◌++◌, length}
use Rattle.cert_check.specs.declared.entry.Entry.{Entry}
use Rattle.cert_check.specs.declared.wrote.Wrote.{Wrote}
use Rattle.cert_check.specs.declared.wrote.Wrote.TheVariants.{At, Fault, Full}
use Rattle.outside.specs.Runs.{IsSettled}
use Rattle.outside.specs.States.{DiskState}
use Rattle.journal.specs.Files.{AreStorable, BeginsWith, HasJust, HasNoRoom, end_of}

-- A journal: its disk, and the disk as it was when the journal was made; whether it is off; the entries that it was
-- opened with, and what it wrote since.
pub record PlainJournal (D : Type 0) : Type 0 where
  pub disk : D
  pub made : D
  pub off : Bool
  pub opening : List Entry
  pub wrotes : List Wrote

-- what stays with a journal: the entries that it was opened with, whether it is off, and its disk as it was then
pub record JournalOrigin (D : Type 0) : Type 0 where
  pub opening : List Entry
  pub off : Bool
  pub made : D

abbrev pub origin_of : {D : Type 0} → PlainJournal D → JournalOrigin D
origin_of journal = record { opening = journal.opening; off = journal.off; made = journal.made }

-- ---- the list of a journal

-- the entries that were saved
unfoldable pub saved_in : List Wrote → List Entry
saved_in [] = []
saved_in (At seat at entry ∷ wrotes) = entry ∷ saved_in wrotes
saved_in (Fault seat ∷ wrotes) = saved_in wrotes
saved_in (Full seat entry ∷ wrotes) = saved_in wrotes

-- how often the disk failed
unfoldable pub faults_in : List Wrote → ℕ
faults_in [] = 0
faults_in (At seat at entry ∷ wrotes) = faults_in wrotes
faults_in (Fault seat ∷ wrotes) = faults_in wrotes + 1
faults_in (Full seat entry ∷ wrotes) = faults_in wrotes

-- the entries of the file: those of its opening, and those that were saved
abbrev pub list_of : {D : Type 0} → PlainJournal D → List Entry
list_of journal = journal.opening ++ saved_in journal.wrotes

-- ---- where its writes stand

-- behind these entries: one that was saved stands at their end, and one that wasn't for want of room has none there
abbrev pub IsInPlace : List Entry → Wrote → Type 0
IsInPlace before (At seat at entry) = at ≡ end_of before
IsInPlace before (Fault seat) = Unit {0}
IsInPlace before (Full seat entry) = HasNoRoom before entry

-- each write is in its place behind the opening entries and those that were saved before it
abbrev pub AreInPlace : List Entry → List Wrote → Type 0
AreInPlace opening wrotes =
    (before : List Wrote) (write : Wrote) (behind : List Wrote) → wrotes ≡ before ++ write ∷ behind
    → IsInPlace (opening ++ saved_in before) write

-- ---- what the type keeps

-- a journal that is off has no entries, has written nothing, and leaves its disk alone
pub record IsOff {D : Type 0} (journal : PlainJournal D) : Type 0 where
  pub empty : journal.opening ≡ []
  pub nothing : journal.wrotes ≡ []
  pub untouched : journal.disk ≡ journal.made

-- nothing but the opening entries stood in the file when the journal was made, and no write has failed since
pub record IsWhole {D : Type 0} (state : D → DiskState) (journal : PlainJournal D) : Type 0 where
  pub made : IfSome (state journal.made).content (λ file. HasJust file journal.opening)
  pub no_fault : faults_in journal.wrotes ≡ 0

-- The file begins with the list, and so does whatever a crash may leave, if nothing was pending when the journal was
-- made. Where the file was whole then and no write has failed, it has just the list.
pub record IsKept {D : Type 0} (state : D → DiskState) (journal : PlainJournal D) : Type 0 where
  pub storable : AreStorable (list_of journal)
  pub content : IfSome (state journal.disk).content (λ file. BeginsWith file (list_of journal))
  pub images : IsSettled (state journal.made) → (image : List ℕ)
      → (state journal.disk).may_leave image → BeginsWith image (list_of journal)
  pub whole : IsWhole state journal → IfSome (state journal.disk).content (λ file. HasJust file (list_of journal))
  pub whole_images : IsWhole state journal → IsSettled (state journal.made) → (image : List ℕ)
      → (state journal.disk).may_leave image → HasJust image (list_of journal)

-- how a journal stands to its disk
abbrev pub IsOffOrKept : {D : Type 0} → (D → DiskState) → PlainJournal D → Type 0
IsOffOrKept state journal = (journal.off ≡ true → IsOff journal) × (journal.off ≡ false → IsKept state journal)

-- The disk has the name and the rules that it had when the journal was made, and has failed at least as often since as
-- the journal says; each write is in its place; and the file has the list.
pub record KeepsJournal {D : Type 0} (state : D → DiskState) (journal : PlainJournal D) : Type 0 where
  pub name : (state journal.disk).name ≡ (state journal.made).name
  pub telling : (state journal.disk).tells_images ≡ (state journal.made).tells_images
  pub rules : (state journal.disk).keeps_rules ≡ (state journal.made).keeps_rules
  pub faults : min ((state journal.made).faults + faults_in journal.wrotes) (2 ^ 64 - 1) ≤ (state journal.disk).faults
  pub placed : AreInPlace journal.opening journal.wrotes
  pub how : IsOffOrKept state journal

-- the end of the list and its length, which are kept beside it; of a journal that is off the end says nothing
pub record HasNumbers {D : Type 0} (journal : PlainJournal D) (at count : ℕ) : Type 0 where
  pub end : journal.off ≡ false → at ≡ end_of (list_of journal)
  pub len : count ≡ length (list_of journal)

-- a journal that was just opened with these entries
pub record IsFresh {D : Type 0} (entries : List Entry) (journal : PlainJournal D) : Type 0 where
  pub on : journal.off ≡ false
  pub opening : journal.opening ≡ entries
  pub nothing : journal.wrotes ≡ []
  pub made : journal.made ≡ journal.disk
