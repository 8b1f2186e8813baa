-- What `dump` promises.
use Rattle.std.specs.Prelude.{◌≡◌, ◌⊎◌, ℕ, Some, IfSome, List, []}
use Rattle.clap.specs.Words.{Text}
use Rattle.outside.specs.Counts.{Rose}
use Rattle.outside.specs.States.{DiskState}
use Rattle.journal.specs.declared.recovered.Recovered.{Recovered}
use Rattle.journal.specs.Recovery.{IsForeign, IsInOrder, IsRecovered}
use Rattle.green_cli.specs.Call.{Call}
use Rattle.green_cli.specs.DumpText.{dump_text}
use Rattle.green_cli.specs.Solve.{NoDeviceFails}
use Rattle.green_cli.specs.Statuses.{IsRefused, WritesResult}
use Rattle.green_cli.specs.Stores.{CanBeOpened, IsUnwritten}
use Rattle.green_cli.specs.declared.fault.Fault.{Fault}
use Rattle.green_cli.specs.declared.fault.Fault.TheVariants.{Disk, NoMemory, NotJournal}
use Rattle.green_cli.specs.declared.outcome.Report.{Report}

-- The file of this name was read, and this is the text of what it recovers to. The report has its entries.
pub record IsDumpOf (name : Text) (before after : DiskState) (report : Report) (text : List ℕ) : Type 0 where
  pub found : Recovered
  pub recovered : IfSome before.content (λ file. IsRecovered file found)
  pub in_order : IsInOrder found
  pub entries : report ≡ record { session = []; answers = []; log = []; entries = found.entries.items; saved = 0 }
  pub named : after.name ≡ Some name
  pub spelled : text ≡ dump_text found

-- the file of this name was read, and the text of what it recovers to is what was written
pub record IsDumped {D : Type 0} (state : D → DiskState) (name : Text) (call : Call D) : Type 0 where
  pub text : List ℕ
  pub of_file : IsDumpOf name (state call.disk.before) (state call.disk.after) call.report text
  pub result : WritesResult text call

-- why `dump` refuses: the disk failed, or the file is no journal. Want of memory needs no cause.
abbrev pub dump_cause : DiskState → DiskState → Fault → Type 0
dump_cause before after Disk = Rose before.faults after.faults
dump_cause before after NotJournal = IfSome before.content IsForeign
dump_cause before after NoMemory = Unit {0}
dump_cause before after _ = ⊥

-- `dump` of this file: it isn't written, whatever the status
pub record Dumps {D : Type 0} (state : D → DiskState) (name : Text) (call : Call D) : Type 0 where
  -- statuses 0 and 13, or one of 14, 16 and 17
  pub outcome : IsDumped state name call ⊎ IsRefused (dump_cause (state call.disk.before) (state call.disk.after)) call
  pub unread : call.source.after ≡ call.source.before
  pub unwritten : IsUnwritten (state call.disk.before) (state call.disk.after)
  pub other : call.other.after ≡ call.other.before
  pub complete : CanBeOpened (state call.disk.before) → NoDeviceFails state call
      → (call.status ≡ 0) ⊎ (call.status ≡ 16)
