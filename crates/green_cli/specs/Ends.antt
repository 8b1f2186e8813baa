-- What a session that was read comes to.
use Rattle.std.specs.Prelude.{◌≡◌, ◌⊎◌, ℕ, Option, List}
use Rattle.clap.specs.Words.{Text}
use Rattle.lin_model.specs.Conditions.{PlainCondition}
use Rattle.outside.specs.States.{DiskState, SinkState}
use Rattle.journal.specs.Journals.{KeepsJournal, PlainJournal, origin_of}
use Rattle.green_cli.specs.Answered.{IsRightReport}
use Rattle.green_cli.specs.AnswersText.{answers_text}
use Rattle.green_cli.specs.Call.{Change}
use Rattle.green_cli.specs.Opened.{FailsToOpenStore, IsOpened}
use Rattle.green_cli.specs.Saves.{writes_in}
use Rattle.green_cli.specs.Statuses.{Ends, IsEmpty, WritesFault, run_status}
use Rattle.green_cli.specs.declared.fault.Fault.{Fault}
use Rattle.green_cli.specs.declared.fault.Fault.TheVariants.{NoMemory}
use Rattle.green_cli.specs.declared.outcome.Outcome.{Outcome}
use Rattle.green_cli.specs.declared.store.Opened.{Opened}

-- the journal of the store goes on as this one, which left the disk so
pub record Closes {D : Type 0} (state : D → DiskState) (opened : Opened D) (journal : PlainJournal D) (after : D) : Type 0
  where
    pub kept : KeepsJournal state journal
    pub origin : origin_of journal ≡ origin_of opened.journal
    pub closed : after ≡ journal.disk

-- the session was answered over the store, and the text of its answers is what was written
pub record AnswersOver {D : Type 0} (state : D → DiskState) (budget : ℕ) (session : List (List PlainCondition))
    (opened : Opened D) (sink : Change SinkState) (done : Outcome D) : Type 0 where
  pub session_is : done.report.session ≡ session
  pub right : IsRightReport budget opened.recovered.entries.items opened.journal.off done.report
  pub journal : PlainJournal D
  pub closes : Closes state opened journal done.disk
  pub wrotes : journal.wrotes ≡ writes_in done.report
  pub result :
      Ends (answers_text done.report.session done.report.answers) (run_status done.report) sink done.status

-- the call was refused with this fault, and an empty report
pub record RefusesWith {D : Type 0} (fault : Fault) (sink : Change SinkState) (done : Outcome D) : Type 0 where
  pub writes : WritesFault fault sink done.status
  pub nothing : IsEmpty done.report

-- memory ran out before the session was answered
pub record StarvesOver {D : Type 0} (state : D → DiskState) (opened : Opened D) (sink : Change SinkState)
    (done : Outcome D) : Type 0 where
  pub refuses : RefusesWith NoMemory sink done
  pub journal : PlainJournal D
  pub closes : Closes state opened journal done.disk

-- how a session ends over a store that was opened
abbrev pub EndsOver : {D : Type 0} → (D → DiskState) → ℕ → List (List PlainCondition) → Opened D → Change SinkState
    → Outcome D → Type 0
EndsOver state budget session opened sink done =
    AnswersOver state budget session opened sink done ⊎ StarvesOver state opened sink done

-- the store was opened, and the session ended over it
pub record RunsSession {D : Type 0} (state : D → DiskState) (store : Option Text) (budget : ℕ)
    (session : List (List PlainCondition)) (sink : Change SinkState) (disk : D) (done : Outcome D) : Type 0 where
  pub opened : Opened D
  pub is_opened : IsOpened state store disk opened
  pub ends : EndsOver state budget session opened sink done

-- the store wasn't opened, and the call was refused for that
pub record OpensInVain {D : Type 0} (state : D → DiskState) (store : Option Text) (sink : Change SinkState) (disk : D)
    (done : Outcome D) : Type 0 where
  pub fault : Fault
  pub fails : FailsToOpenStore state store disk done.disk fault
  pub refuses : RefusesWith fault sink done

-- how a session ends that was read
abbrev pub EndsSession : {D : Type 0} → (D → DiskState) → Option Text → ℕ → List (List PlainCondition)
    → Change SinkState → D → Outcome D → Type 0
EndsSession state store budget session sink disk done =
    RunsSession state store budget session sink disk done ⊎ OpensInVain state store sink disk done
