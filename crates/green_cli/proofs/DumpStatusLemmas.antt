-- What `dump` comes to, and what its statuses tell.
use Rattle.std.proofs.Common.{◌≡◌, ◌≢◌, ◌⊎◌, ◌+◌, ◌≤◌, ℕ, List, Option, Some, arith, sym, ap, subst, ◌∙◌, inl, inr, ⊎_elim}
use Rattle.std.specs.Option.{IfSome}
use Rattle.clap.specs.Words.{Text as Name}
use Rattle.outside.specs.Counts.{Rose}
use Rattle.outside.specs.States.{DiskState}
use Rattle.journal.specs.Recovery.{IsForeign, IsRecovered, RecoversTo}
use Rattle.green_cli.specs.Call.{Call}
use Rattle.green_cli.specs.Dump.{Dumps, IsDumpOf, IsDumped, dump_cause}
use Rattle.green_cli.specs.Solve.{NoDeviceFails}
use Rattle.green_cli.specs.StatusLaws.{IsForeignTo, StatusesOfDump}
use Rattle.green_cli.specs.Statuses.{Ends, IsRefused, run_status, status_of}
use Rattle.green_cli.specs.Stores.{CanBeOpened, IsUnwritten}
use Rattle.green_cli.specs.declared.fault.Fault.{Fault}
use Rattle.green_cli.specs.declared.fault.Fault.TheVariants.{Usage, Text, Read, Disk, NoMemory, NotJournal, TooLong}
use Rattle.green_cli.specs.declared.outcome.Report.{Report}
use Rattle.green_cli.proofs.CompleteLemmas.{opens_none_foreign}
use Rattle.green_cli.proofs.StatusLemmas.{foreign_recovers}

module _ {D : Type 0} (state : D → DiskState) (name : Name) (call : Call D) where
  -- nothing is lost or unknown in a report without answers
  zero_of : (text : List ℕ) → IsDumpOf name (state call.disk.before) (state call.disk.after) call.report text
      → run_status call.report ≡ 0
  zero_of text dump = ap (λ (r : Report). run_status r) dump.entries

  abbrev pub Cause : Fault → Type 0
  Cause fault = dump_cause (state call.disk.before) (state call.disk.after) fault

  dumped_status : IsDumped state name call → (call.status ≡ 0) ⊎ (call.status ≡ 13)
  dumped_status dumped =
      ⊎_elim (λ whole. inl (whole.1 ∙ zero_of dumped.text dumped.of_file)) (λ cut. inr cut.1) dumped.result

  -- why it was refused, by the status
  others_by : (fault : Fault) → Cause fault → call.status ≡ status_of fault
      → (call.status ≡ 14) ⊎ (call.status ≡ 16) ⊎ (call.status ≡ 17)
  others_by Usage cause number = absurd cause
  others_by (Text fault) cause number = absurd cause
  others_by Read cause number = absurd cause
  others_by Disk cause number = inl number
  others_by NoMemory cause number = inr (inl number)
  others_by NotJournal cause number = inr (inr number)
  others_by TooLong cause number = absurd cause

  refused_status : IsRefused Cause call → (call.status ≡ 14) ⊎ (call.status ≡ 16) ⊎ (call.status ≡ 17)
  refused_status refused = others_by refused.fault refused.reason refused.writes.number

  disk_by : (fault : Fault) → Cause fault → 14 ≡ status_of fault → Cause Disk
  disk_by Usage cause number = absurd cause
  disk_by (Text fault) cause number = absurd cause
  disk_by Read cause number = absurd cause
  disk_by Disk cause number = cause
  disk_by NoMemory cause number = absurd (omega (arith, number))
  disk_by NotJournal cause number = absurd (omega (arith, number))
  disk_by TooLong cause number = absurd cause

  journal_by : (fault : Fault) → Cause fault → 17 ≡ status_of fault → Cause NotJournal
  journal_by Usage cause number = absurd cause
  journal_by (Text fault) cause number = absurd cause
  journal_by Read cause number = absurd cause
  journal_by Disk cause number = absurd (omega (arith, number))
  journal_by NoMemory cause number = absurd (omega (arith, number))
  journal_by NotJournal cause number = cause
  journal_by TooLong cause number = absurd cause

  -- a file that is no journal isn't dumped
  foreign_by : IsForeignTo state call → (fault : Fault) → Cause fault → call.status ≡ status_of fault
      → (call.status ≡ 17) ⊎ (call.status ≡ 16)
  foreign_by foreign Usage cause number = absurd cause
  foreign_by foreign (Text fault) cause number = absurd cause
  foreign_by foreign Read cause number = absurd cause
  foreign_by foreign Disk cause number = absurd (foreign.holds cause)
  foreign_by foreign NoMemory cause number = inr number
  foreign_by foreign NotJournal cause number = inl number
  foreign_by foreign TooLong cause number = absurd cause

  not_recovered : (text : List ℕ) → IsForeignTo state call
      → IsDumpOf name (state call.disk.before) (state call.disk.after) call.report text → ⊥
  not_recovered text foreign dump =
      let found = subst (λ (content : Option (List ℕ)). IfSome content (λ file. IsRecovered file dump.found))
      foreign.tells.told dump.recovered in
      foreign_recovers foreign.tells.file dump.found.entries.items foreign.tells.foreign (found.rest, found.entries)

  -- ---- the whole promise

  complete_by : CanBeOpened (state call.disk.before) → NoDeviceFails state call → (fault : Fault) → Cause fault
      → call.status ≡ status_of fault → call.status ≡ 16
  complete_by can none Usage cause number = absurd cause
  complete_by can none (Text fault) cause number = absurd cause
  complete_by can none Read cause number = absurd cause
  complete_by can none Disk cause number = absurd (none.disk cause)
  complete_by can none NoMemory cause number = number
  complete_by can none NotJournal cause number = absurd (opens_none_foreign (state call.disk.before) can cause)
  complete_by can none TooLong cause number = absurd cause

  -- what follows of a file that was dumped, or of a call that was refused
  pub dumps_so : IsDumped state name call ⊎ IsRefused Cause call → call.source.after ≡ call.source.before
      → IsUnwritten (state call.disk.before) (state call.disk.after) → call.other.after ≡ call.other.before
      → Dumps state name call
  dumps_so outcome unread unwritten other = record {
    outcome = outcome;
    unread = unread;
    unwritten = unwritten;
    other = other;
    complete = λ can none. ⊎_elim
        (λ dumped. ⊎_elim (λ whole. inl (whole.1 ∙ zero_of dumped.text dumped.of_file))
        (λ cut. absurd (none.others.sink cut.0.rose)) dumped.result)
        (λ refused. inr (complete_by can none refused.fault refused.reason refused.writes.number)) outcome;
  }

  -- ---- the statuses

  module _ (dumps : Dumps state name call) where
    refused_where : (n : ℕ) → call.status ≡ n → n ≢ 0 → n ≢ 13 → IsRefused Cause call
    refused_where n is not_zero not_thirteen =
        ⊎_elim
        (λ dumped. absurd (⊎_elim (λ zero. not_zero (sym is ∙ zero)) (λ cut. not_thirteen (sym is ∙ cut))
        (dumped_status dumped)))
        (λ refused. refused) dumps.outcome

    dumped_where : (call.status ≡ 0) ⊎ (call.status ≡ 13) → IsDumped state name call
    dumped_where status =
        ⊎_elim (λ dumped. dumped) (λ refused. absurd (grind (arith, status, refused_status refused))) dumps.outcome

    disk_failed : call.status ≡ 14 → Rose (state call.disk.before).faults (state call.disk.after).faults
    disk_failed is =
        let refused = refused_where 14 is (λ e. omega (arith, e)) (λ e. omega (arith, e)) in
        disk_by refused.fault refused.reason (sym is ∙ refused.writes.number)

    no_journal : call.status ≡ 17 → IfSome (state call.disk.before).content IsForeign
    no_journal is =
        let refused = refused_where 17 is (λ e. omega (arith, e)) (λ e. omega (arith, e)) in
        journal_by refused.fault refused.reason (sym is ∙ refused.writes.number)

    pub dump_statuses : StatusesOfDump state name call
    dump_statuses = record {
      dumped = (dumped_where, dumped_status);
      others = ⊎_elim (λ dumped. ⊎_elim inl (λ cut. inr (inl cut)) (dumped_status dumped))
          (λ refused. inr (inr (refused_status refused))) dumps.outcome;
      disk_failed = disk_failed;
      no_journal = no_journal;
      is_no_journal = λ foreign. ⊎_elim (λ dumped. absurd (not_recovered dumped.text foreign dumped.of_file))
          (λ refused. foreign_by foreign refused.fault refused.reason refused.writes.number) dumps.outcome;
    }
