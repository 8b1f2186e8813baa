-- How the store of a session is opened.
use Rattle.std.specs.Prelude.{◌≡◌, ◌≤◌, Bool, true, false, Option, Some, None, IfSome, List, []}
use Rattle.clap.specs.Words.{Text}
use Rattle.outside.specs.Runs.{IsSettled}
use Rattle.outside.specs.States.{DiskState}
use Rattle.journal.specs.Journals.{KeepsJournal, PlainJournal, list_of}
use Rattle.journal.specs.Recovery.{HoldsAtLeast, RecoversTo}
use Rattle.green_cli.specs.Saves.{OldEntriesSurvive}
use Rattle.green_cli.specs.Stores.{BeganWith, IsNoJournal, OpeningFailed}
use Rattle.green_cli.specs.declared.fault.Fault.{Fault}
use Rattle.green_cli.specs.declared.fault.Fault.TheVariants.{Disk, NoMemory, NotJournal}
use Rattle.green_cli.specs.declared.store.Opened.{Opened}

-- a fresh journal, and what was recovered is its list
pub record IsStarted {D : Type 0} (state : D → DiskState) (opened : Opened D) : Type 0 where
  pub list : opened.recovered.entries.items ≡ list_of opened.journal
  pub no_writes : opened.journal.wrotes ≡ []
  pub kept : KeepsJournal state opened.journal

-- the file of this name was opened
pub record IsFileOpened {D : Type 0} (state : D → DiskState) (name : Text) (disk : D) (opened : Opened D) : Type 0 where
  pub started : IsStarted state opened
  pub on : opened.journal.off ≡ false
  pub began : BeganWith opened.recovered.entries.items (state disk)
  pub named : (state opened.journal.made).name ≡ Some name
  pub settled : IsSettled (state disk) → IsSettled (state opened.journal.made)
  pub faults : (state disk).faults ≤ (state opened.journal.made).faults

-- no file was opened: the journal is off and has the disk as it was
pub record IsNoFileOpened {D : Type 0} (state : D → DiskState) (disk : D) (opened : Opened D) : Type 0 where
  pub started : IsStarted state opened
  pub off : opened.journal.off ≡ true
  pub untouched : opened.journal.made ≡ disk

-- the store was opened
abbrev pub IsOpened : {D : Type 0} → (D → DiskState) → Option Text → D → Opened D → Type 0
IsOpened state None disk opened = IsNoFileOpened state disk opened
IsOpened state (Some name) disk opened = IsFileOpened state name disk opened

-- the file wasn't opened, for this fault
abbrev pub FailsToOpenFile : DiskState → DiskState → Fault → Type 0
FailsToOpenFile before after Disk = OpeningFailed before after
FailsToOpenFile before after NotJournal = IsNoJournal before after
FailsToOpenFile before after NoMemory = OldEntriesSurvive before after
FailsToOpenFile before after _ = ⊥

-- the store wasn't opened; one without a file always is
abbrev pub FailsToOpenStore : {D : Type 0} → (D → DiskState) → Option Text → D → D → Fault → Type 0
FailsToOpenStore state None before after fault = ⊥
FailsToOpenStore state (Some name) before after fault = FailsToOpenFile (state before) (state after) fault
