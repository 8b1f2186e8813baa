-- What a call does to the file that its words name.
use Rattle.std.specs.Prelude.{◌≡◌, ◌↔◌, ℕ, Some, IsTrue, IfSome, List}
use Rattle.clap.specs.Words.{Text}
use Rattle.cert_check.specs.declared.entry.Entry.{Entry}
use Rattle.outside.specs.Counts.{Rose}
use Rattle.outside.specs.Runs.{HasSamePast}
use Rattle.outside.specs.States.{DiskState}
use Rattle.journal.specs.Files.{AreStorable}
use Rattle.journal.specs.Opening.{FileBecomes, IsLeft}
use Rattle.journal.specs.Recovery.{IsForeign, RecoversTo}
use Rattle.green_cli.specs.Saves.{OldEntriesSurvive}

-- the file wasn't written: a read and a crash give what they gave
pub record IsUnwritten (before after : DiskState) : Type 0 where
  pub content : after.content ≡ before.content
  pub images : IsTrue before.tells_images → (image : List ℕ) → after.may_leave image ↔ before.may_leave image
  pub past : IsTrue before.keeps_rules → HasSamePast before after

-- a store began with these entries: those that the file recovers to
pub record BeganWith (opening : List Entry) (before : DiskState) : Type 0 where
  pub recovered : IfSome before.content (λ file. RecoversTo file opening)
  pub storable : AreStorable opening

-- the disk failed in the opening: the file is as the opening leaves it
pub record OpeningFailed (before after : DiskState) : Type 0 where
  pub rose : Rose before.faults after.faults
  pub left : FileBecomes IsLeft before.content after.content
  pub survive : OldEntriesSurvive before after

-- the file is no journal, and wasn't written
pub record IsNoJournal (before after : DiskState) : Type 0 where
  pub foreign : IfSome before.content IsForeign
  pub unwritten : IsUnwritten before after

-- the disk tells a file that is a journal, or can become one
pub record CanBeOpened (disk : DiskState) : Type 0 where
  pub file : List ℕ
  pub told : disk.content ≡ Some file
  pub own : ¬ IsForeign file
