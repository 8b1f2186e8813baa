-- What `solve` promises.
use Rattle.std.specs.Prelude.{◌≡◌, ◌≢◌, ◌⊎◌, ℕ, ◌+◌, Bool, true, false, Option, Some, None, List, []}
use Rattle.std.specs.List.{AllZip}
use Rattle.clap.specs.Words.{Text}
use Rattle.cert_check.specs.declared.entry.Entry.{Entry}
use Rattle.outside.specs.Counts.{Rose}
use Rattle.outside.specs.States.{DiskState}
use Rattle.pipeline.specs.Laws.{Suffices}
use Rattle.green_cli.specs.Answered.{IsRightReport}
use Rattle.green_cli.specs.AnswersText.{answers_text}
use Rattle.green_cli.specs.Call.{Call, KeepsDisks, NothingFails}
use Rattle.green_cli.specs.Input.{GivesSession, InputWasRead, SessionWasRead, TakesAtMost, max_input, session_cause}
use Rattle.green_cli.specs.Saves.{OldEntriesSurvive, SavesSurvive}
use Rattle.green_cli.specs.Statuses.{IsRefused, WritesResult, has_full}
use Rattle.green_cli.specs.Stores.{BeganWith, CanBeOpened, IsNoJournal, OpeningFailed}
use Rattle.green_cli.specs.declared.fault.Fault.{Fault}
use Rattle.green_cli.specs.declared.fault.Fault.TheVariants.{Usage, Text as OfText, Read, Disk, NoMemory, NotJournal, TooLong}
use Rattle.green_cli.specs.declared.outcome.Report.{Report}

-- for each query the budget is at least the room of the key of each slice that was asked
abbrev pub SufficesFor : ℕ → Report → Type 0
SufficesFor budget report =
    AllZip (λ queries script. AllZip (λ q answer. Suffices budget q answer) queries script) report.session
    report.answers

-- ---- a session that was answered

-- over the file of this name, which was opened with these entries: what is reported saved survives
pub record UsesFile {D : Type 0} (state : D → DiskState) (name : Text) (opening : List Entry) (call : Call D) : Type 0
  where
    pub began : BeganWith opening (state call.disk.before)
    pub named : (state call.disk.after).name ≡ Some name
    pub saves : SavesSurvive opening call.report (state call.disk.before) (state call.disk.after)

-- over a store in memory, which began without entries
pub record UsesNoFile {D : Type 0} (opening : List Entry) (call : Call D) : Type 0 where
  pub nothing : opening ≡ []
  pub untouched : call.disk.after ≡ call.disk.before

-- over the file that the words name, or over none
abbrev pub UsesStore : {D : Type 0} → (D → DiskState) → Option Text → List Entry → Call D → Type 0
UsesStore state None opening call = UsesNoFile opening call
UsesStore state (Some name) opening call = UsesFile state name opening call

-- nothing is saved where the words name no file
abbrev pub is_off : Option Text → Bool
is_off None = true
is_off (Some name) = false

-- The session was answered: the input, read to its end, spells the session of the report; the report is right, for the
-- entries that the store began with; and the text of its answers is what was written.
pub record IsSolved {D : Type 0} (state : D → DiskState) (store : Option Text) (budget : ℕ) (call : Call D) : Type 0 where
  pub input : InputWasRead call.source call.report.session
  pub opening : List Entry
  pub uses : UsesStore state store opening call
  pub report : IsRightReport budget opening (is_off store) call.report
  pub result : WritesResult (answers_text call.report.session call.report.answers) call

-- ---- a call that was refused

-- Why `solve` refuses: no session can be had, or one was read and the file can't be opened. Of an input that is no session
-- the store isn't opened.
abbrev pub solve_cause : {D : Type 0} → (D → DiskState) → Option Text → Call D → Fault → Type 0
solve_cause state None call Disk = ⊥
solve_cause state None call NotJournal = ⊥
solve_cause state (Some name) call Disk =
    SessionWasRead call.source × OpeningFailed (state call.disk.before) (state call.disk.after)
solve_cause state (Some name) call NotJournal =
    SessionWasRead call.source × IsNoJournal (state call.disk.before) (state call.disk.after)
solve_cause state store call fault = session_cause call.source fault

-- what a refusal leaves of the file: nothing was opened, or memory ran out
abbrev pub LeavesStore : {D : Type 0} → (D → DiskState) → Option Text → Call D → Fault → Type 0
LeavesStore state None call fault = call.disk.after ≡ call.disk.before
LeavesStore state (Some name) call Disk = Unit {0}
LeavesStore state (Some name) call NotJournal = Unit {0}
LeavesStore state (Some name) call NoMemory = OldEntriesSurvive (state call.disk.before) (state call.disk.after)
LeavesStore state (Some name) call fault = call.disk.after ≡ call.disk.before

-- the call was refused for a fault that has its cause, and left the file so
pub record SolveIsRefused {D : Type 0} (state : D → DiskState) (store : Option Text) (call : Call D) : Type 0 where
  pub refused : IsRefused (λ fault. solve_cause state store call fault × LeavesStore state store call fault) call

-- ---- all calls

-- no disk failed either
pub record NoDeviceFails {D : Type 0} (state : D → DiskState) (call : Call D) : Type 0 where
  pub others : NothingFails call
  pub disk : ¬ Rose (state call.disk.before).faults (state call.disk.after).faults

-- what is left where a session can be had, a file that is named can be opened, and no device fails: 0 or 3, 4 where the
-- file was full, or 16
abbrev pub IsDoneOrStarved : {D : Type 0} → Call D → Type 0
IsDoneOrStarved call = (call.status ≡ 0) ⊎ (call.status ≡ 3) ⊎ ((call.status ≡ 4) × (has_full call.report.answers ≡ true))
    ⊎ (call.status ≡ 16)

-- a file that the words name can be opened
abbrev pub StoreCanBeOpened : {D : Type 0} → (D → DiskState) → Option Text → Call D → Type 0
StoreCanBeOpened state None call = Unit {0}
StoreCanBeOpened state (Some name) call = CanBeOpened (state call.disk.before)

-- `solve` over this file, if any, with this budget for each slice
pub record Solves {D : Type 0} (state : D → DiskState) (store : Option Text) (budget : ℕ) (call : Call D) : Type 0 where
  -- statuses 0, 3, 4 and 13, or one of 11, 12, 14, 16, 17 and 18
  pub outcome : IsSolved state store budget call ⊎ SolveIsRefused state store call
  pub other : call.other.after ≡ call.other.before
  pub bounded : TakesAtMost (max_input + 1) call.source
  pub complete : GivesSession call.source.before → StoreCanBeOpened state store call → NoDeviceFails state call
      → IsDoneOrStarved call
  pub sufficient : SufficesFor budget call.report → call.status ≢ 3
