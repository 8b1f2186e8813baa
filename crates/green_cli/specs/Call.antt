-- What a call of the program changes and answers.
use Rattle.std.specs.Prelude.{◌≡◌, ℕ}
use Rattle.outside.specs.Counts.{Rose}
use Rattle.outside.specs.States.{SourceState, SinkState}
use Rattle.green_cli.specs.declared.outcome.Report.{Report}

-- something as a call found it, and as it left it
pub record Change (S : Type 0) : Type 0 where
  pub before : S
  pub after : S

abbrev pub change : {S : Type 0} → S → S → Change S
change before after = record { before = before; after = after }

-- all that a call changes and answers: the source and the sink as contracts see them, the two disks, the status and the
-- report
pub record Call (D : Type 0) : Type 0 where
  pub source : Change SourceState
  pub sink : Change SinkState
  pub disk : Change D
  pub other : Change D
  pub status : ℕ
  pub report : Report

-- both disks are as they were
pub record KeepsDisks {D : Type 0} (call : Call D) : Type 0 where
  pub disk : call.disk.after ≡ call.disk.before
  pub other : call.other.after ≡ call.other.before

-- neither the source nor the sink failed
pub record NothingFails {D : Type 0} (call : Call D) : Type 0 where
  pub source : ¬ Rose call.source.before.faults call.source.after.faults
  pub sink : ¬ Rose call.sink.before.faults call.sink.after.faults
