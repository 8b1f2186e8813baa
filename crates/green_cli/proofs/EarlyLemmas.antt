-- A call that was refused before a file was opened.
use Rattle.std.proofs.Common.{◌≡◌, ◌⊎◌, ℕ, List, Option, None, Some, sym, subst}
use Rattle.std.specs.Option.{IfSome}
use Rattle.clap.specs.Words.{Text as Name}
use Rattle.cert_check.specs.declared.entry.Entry.{Entry}
use Rattle.outside.specs.Crash.{Synced}
use Rattle.outside.specs.States.{DiskState}
use Rattle.journal.specs.Laws.{KeptEntriesAreHeld}
use Rattle.journal.specs.Recovery.{HoldsAtLeast, KeepsEntries, RecoversTo}
use Rattle.green_cli.specs.Call.{Call}
use Rattle.green_cli.specs.Input.{session_cause}
use Rattle.green_cli.specs.Saves.{OldEntriesSurvive}
use Rattle.green_cli.specs.Solve.{LeavesStore, SolveIsRefused, solve_cause}
use Rattle.green_cli.specs.Statuses.{FaultIsWritten, IsEmpty}
use Rattle.green_cli.specs.declared.fault.Fault.{Fault}
use Rattle.green_cli.specs.declared.fault.Fault.TheVariants.{Usage, Text, Read, Disk, NoMemory, NotJournal, TooLong}
use Rattle.green_cli.proofs.RefusalLemmas.{refused_by}

-- what a settled disk holds survives where nothing was done
kept_still : KeptEntriesAreHeld → (disk : DiskState) → OldEntriesSurvive disk disk
kept_still held disk settled = by_content disk.content settled.synced
  where
    by_content : (content : Option (List ℕ)) → Synced content disk.may_leave
        → IfSome content (λ file. (entries : List Entry) → RecoversTo file entries → (image : List ℕ)
        → disk.may_leave image → HoldsAtLeast image entries)
    by_content None synced = tt
    by_content (Some file) synced = λ entries recovers image left.
        held file image entries recovers
        (subst (λ (other : List ℕ). KeepsEntries file other) (sym ((synced image).0 left)) (λ es there. there))

module _ {D : Type 0} (state : D → DiskState) (call : Call D) (same : call.disk.after ≡ call.disk.before) where
  early_cause : (store : Option Name) (fault : Fault) → session_cause call.source fault
      → solve_cause state store call fault
  early_cause None Usage cause = cause
  early_cause None (Text fault) cause = cause
  early_cause None Read cause = cause
  early_cause None Disk cause = absurd cause
  early_cause None NoMemory cause = cause
  early_cause None NotJournal cause = absurd cause
  early_cause None TooLong cause = cause
  early_cause (Some name) Usage cause = cause
  early_cause (Some name) (Text fault) cause = cause
  early_cause (Some name) Read cause = cause
  early_cause (Some name) Disk cause = absurd cause
  early_cause (Some name) NoMemory cause = cause
  early_cause (Some name) NotJournal cause = absurd cause
  early_cause (Some name) TooLong cause = cause

  untouched_so : KeptEntriesAreHeld → (store : Option Name) (fault : Fault) → LeavesStore state store call fault
  untouched_so held None fault = same
  untouched_so held (Some name) Usage = same
  untouched_so held (Some name) (Text fault) = same
  untouched_so held (Some name) Read = same
  untouched_so held (Some name) Disk = tt
  untouched_so held (Some name) NoMemory =
      subst (λ (d : D). OldEntriesSurvive (state call.disk.before) (state d)) (sym same)
      (kept_still held (state call.disk.before))
  untouched_so held (Some name) NotJournal = tt
  untouched_so held (Some name) TooLong = same

  pub refused_early : KeptEntriesAreHeld → (store : Option Name) (fault : Fault) → session_cause call.source fault
      → FaultIsWritten fault call.sink call.status → IsEmpty call.report → SolveIsRefused state store call
  refused_early held store fault cause writes nothing = record {
    refused = refused_by (λ f. solve_cause state store call f × LeavesStore state store call f) call fault
        (early_cause store NoMemory tt, untouched_so held store NoMemory)
        (early_cause store fault cause, untouched_so held store fault) writes nothing;
  }
