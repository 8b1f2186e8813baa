-- What a status tells, as consequences of what the commands promise.
use Rattle.std.specs.Prelude.{◌≡◌, ◌≢◌, ◌⊎◌, ◌↔◌, ◌+◌, ◌≤◌, ℕ, true, false, IfSome, List, Option, None, Some, length}
use Rattle.clap.specs.Words.{Text}
use Rattle.outside.specs.Counts.{Rose}
use Rattle.outside.specs.States.{DiskState, SourceState}
use Rattle.lin_model.specs.Conditions.{PlainCondition}
use Rattle.lin_text.specs.declared.fault.SessionFault.{SessionFault}
use Rattle.session_text.specs.Sessions.{SpellsSession}
use Rattle.green_cli.specs.AnswersText.{answers_text}
use Rattle.green_cli.specs.Call.{Call}
use Rattle.green_cli.specs.Commands.{Does, DoesAsAsked, RefusesWords}
use Rattle.green_cli.specs.Input.{GivesSession, InputIsFaulty, InputIsTooLong, ReadFailed, max_input}
use Rattle.green_cli.specs.Lines.{text_line}
use Rattle.green_cli.specs.Solve.{IsSolved, SolveIsRefused, Solves}
use Rattle.green_cli.specs.Stores.{IsNoJournal, OpeningFailed}
use Rattle.green_cli.specs.Dump.{Dumps, IsDumped}
use Rattle.journal.specs.Recovery.{IsForeign}
use Rattle.green_cli.specs.Statuses.{IsCutOff, Takes, Writes, has_lost, has_unknown}
use Rattle.green_cli.specs.Words.{AreCommand, IsCommand}
use Rattle.green_cli.specs.declared.outcome.Report.{Report}
use Rattle.green_cli.specs.declared.words.Command.{Command}

-- the statuses of `solve` where the session was answered
abbrev pub IsAnswered : ℕ → Type 0
IsAnswered status = (status ≡ 0) ⊎ (status ≡ 3) ⊎ (status ≡ 4) ⊎ (status ≡ 13)

-- those where the text of the answers was written whole
abbrev pub IsWhole : ℕ → Type 0
IsWhole status = (status ≡ 0) ⊎ (status ≡ 3) ⊎ (status ≡ 4)

-- the source tells its bytes, not too many, and they are the text of no session
pub record GivesNoSession (source : SourceState) : Type 0 where
  pub bytes : List ℕ
  pub told : source.left ≡ Some bytes
  pub short : length bytes ≤ max_input
  pub none : (session : List (List PlainCondition)) → ¬ SpellsSession bytes session

-- the source tells its bytes, and they are more than an input may have
pub record GivesTooMuch (source : SourceState) : Type 0 where
  pub bytes : List ℕ
  pub told : source.left ≡ Some bytes
  pub long : max_input + 1 ≤ length bytes

-- the disk tells a file that is no journal
pub record TellsForeign (disk : DiskState) : Type 0 where
  pub file : List ℕ
  pub told : disk.content ≡ Some file
  pub foreign : IsForeign file

-- no read failed
abbrev pub SourceHolds : {D : Type 0} → Call D → Type 0
SourceHolds call = ¬ Rose call.source.before.faults call.source.after.faults

-- the disk tells a file that is no journal, and didn't fail
pub record IsForeignTo {D : Type 0} (state : D → DiskState) (call : Call D) : Type 0 where
  pub tells : TellsForeign (state call.disk.before)
  pub holds : ¬ Rose (state call.disk.before).faults (state call.disk.after).faults

-- a fault of the input's text, with its line
pub record NamesFault {D : Type 0} (call : Call D) : Type 0 where
  pub fault : SessionFault
  pub faulty : InputIsFaulty call.source fault
  pub line : Writes (text_line fault) call.sink

-- the text of a report's answers
abbrev pub text_of : Report → List ℕ
text_of report = answers_text report.session report.answers

-- the words name a store, and this is so
abbrev pub NamesStore : Option Text → Type 0 → Type 0
NamesStore None P = ⊥
NamesStore (Some name) P = P

-- the statuses of a call that solves
pub record StatusesOfSolve {D : Type 0} (state : D → DiskState) (store : Option Text) (budget : ℕ) (call : Call D)
    : Type 0 where
  pub answered : IsAnswered call.status ↔ IsSolved state store budget call
  pub refused : ¬ IsAnswered call.status → SolveIsRefused state store call
  -- 0, 3 and 4, 4, 3, and 13
  pub whole : IsWhole call.status → Takes (text_of call.report) call.sink
  pub lost : (call.status ≡ 4) ↔ ((has_lost call.report.answers ≡ true) × (call.status ≢ 13))
  pub unknown : (call.status ≡ 3) ↔ ((has_unknown call.report.answers ≡ true)
      × (has_lost call.report.answers ≡ false) × (call.status ≢ 13))
  pub cut_off : call.status ≡ 13 → IsCutOff (text_of call.report) call.sink
  -- 10, 11, 12, 14, 17 and 18; 11, 17 and 18 come exactly there, but for want of memory
  pub usage : call.status ≢ 10
  pub faulty : call.status ≡ 11 → NamesFault call
  pub is_faulty : GivesNoSession call.source.before → SourceHolds call → (call.status ≡ 11) ⊎ (call.status ≡ 16)
  pub read_failed : call.status ≡ 12 → ReadFailed call.source
  pub disk_failed : call.status ≡ 14 → NamesStore store (OpeningFailed (state call.disk.before) (state call.disk.after))
  pub no_journal : call.status ≡ 17 → NamesStore store (IsNoJournal (state call.disk.before) (state call.disk.after))
  pub too_long : call.status ≡ 18 → InputIsTooLong call.source
  pub is_too_long : GivesTooMuch call.source.before → SourceHolds call → (call.status ≡ 18) ⊎ (call.status ≡ 16)
  -- 17 comes for each file that is told and is no journal, where a session was given, but for a failed disk too
  pub is_no_journal : GivesSession call.source.before → SourceHolds call → NamesStore store (IsForeignTo state call)
      → (call.status ≡ 17) ⊎ (call.status ≡ 16)

-- every call that solves has these statuses
abbrev pub SolveHasStatuses : {D : Type 0} → (D → DiskState) → Type 0
SolveHasStatuses {D} state = (store : Option Text) (budget : ℕ) (call : Call D)
    → Solves state store budget call → StatusesOfSolve state store budget call

-- the statuses of a call that dumps
pub record StatusesOfDump {D : Type 0} (state : D → DiskState) (name : Text) (call : Call D) : Type 0 where
  pub dumped : (call.status ≡ 0) ⊎ (call.status ≡ 13) ↔ IsDumped state name call
  pub others : (call.status ≡ 0) ⊎ (call.status ≡ 13) ⊎ (call.status ≡ 14) ⊎ (call.status ≡ 16) ⊎ (call.status ≡ 17)
  pub disk_failed : call.status ≡ 14 → Rose (state call.disk.before).faults (state call.disk.after).faults
  pub no_journal : call.status ≡ 17 → IfSome (state call.disk.before).content IsForeign
  -- it comes for each file that is told and is no journal, but for want of memory or a failed disk
  pub is_no_journal : IsForeignTo state call → (call.status ≡ 17) ⊎ (call.status ≡ 16)

-- every call that dumps has these statuses
abbrev pub DumpHasStatuses : {D : Type 0} → (D → DiskState) → Type 0
DumpHasStatuses {D} state = (name : Text) (call : Call D) → Dumps state name call
    → StatusesOfDump state name call

-- but for want of memory, 10 comes exactly where the words ask for no command, and a command that they ask for is done
pub record StatusesOfWords {D : Type 0} (state : D → DiskState) (words : List Text) (call : Call D) : Type 0 where
  pub usage : call.status ≡ 10 → ¬ AreCommand words
  pub is_usage : ¬ AreCommand words → RefusesWords words call × ((call.status ≡ 10) ⊎ (call.status ≡ 16))
  pub does : (command : Command) → IsCommand words command → Does state command call ⊎ (call.status ≡ 16)

-- every call of the program has these statuses
abbrev pub WordsHaveStatuses : {D : Type 0} → (D → DiskState) → Type 0
WordsHaveStatuses {D} state = (words : List Text) (call : Call D) → DoesAsAsked state words call
    → StatusesOfWords state words call
