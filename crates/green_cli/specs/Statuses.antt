-- The statuses of the program, and what a call writes with each.
use Rattle.std.specs.Prelude.{◌≡◌, ◌≢◌, ◌⊎◌, ℕ, Bool, true, false, List, [], if◌then◌else◌}
use Rattle.std.specs.List.{list_any}
use Rattle.outside.specs.Bytes.{Appends, AppendsFront}
use Rattle.outside.specs.Counts.{Rose}
use Rattle.outside.specs.States.{SinkState}
use Rattle.lin_text.specs.declared.fault.SessionKind.TheVariants as kind
use Rattle.journal.specs.declared.recovered.StartFault.{StartFault}
use Rattle.journal.specs.declared.recovered.StartFault.TheVariants as start
use Rattle.cert_check.specs.declared.reply.Reply.{Reply}
use Rattle.cert_check.specs.declared.saved.Saved.{Saved}
use Rattle.cert_check.specs.declared.saved.Saved.TheVariants.{At, Full, Off}
use Rattle.cert_check.specs.declared.saved.Saved.TheVariants as saved
use Rattle.pipeline.specs.declared.answers.Answer.{Answer}
use Rattle.pipeline.specs.declared.answers.Verdict.{Verdict}
use Rattle.pipeline.specs.declared.answers.Verdict.TheVariants.{Sat, UnsatAtom, UnsatSlice, Unknown}
use Rattle.green_cli.specs.Answered.{says}
use Rattle.green_cli.specs.Call.{Call, Change}
use Rattle.green_cli.specs.Lines.{line_of}
use Rattle.green_cli.specs.declared.fault.Fault.{Fault}
use Rattle.green_cli.specs.declared.fault.Fault.TheVariants.{Usage, Text, Read, Disk, NoMemory, NotJournal, TooLong}
use Rattle.green_cli.specs.declared.outcome.Report.{Report}

-- ---- writing

-- the sink took the whole text
abbrev pub Takes : List ℕ → Change SinkState → Type 0
Takes text sink = Appends sink.before.taken sink.after.taken text

-- the sink failed, and took a front of the text
pub record IsCutOff (text : List ℕ) (sink : Change SinkState) : Type 0 where
  pub front : AppendsFront sink.before.taken sink.after.taken text
  pub rose : Rose sink.before.faults sink.after.faults

-- the sink took the text, less than the whole of it only where it failed
abbrev pub Writes : List ℕ → Change SinkState → Type 0
Writes text sink = Takes text sink ⊎ IsCutOff text sink

-- ---- a command that was done

-- the verdict leaves its query undecided
abbrev pub is_unknown : Verdict → Bool
is_unknown (Sat values) = false
is_unknown (UnsatAtom atom) = false
is_unknown (UnsatSlice slice) = false
is_unknown (Unknown slice) = true

-- some query was left undecided
abbrev pub has_unknown : List (List Answer) → Bool
has_unknown answers = list_any (λ script. list_any (λ answer. is_unknown answer.verdict) script) answers

-- what became of an entry in a journal that is on: it wasn't saved
abbrev pub is_lost : Saved → Bool
is_lost (At at) = false
is_lost saved.Fault = true
is_lost Full = true
is_lost Off = false

-- and it wasn't saved for want of room
abbrev pub is_full : Saved → Bool
is_full (At at) = false
is_full saved.Fault = false
is_full Full = true
is_full Off = false

-- some reply passes the test
abbrev pub some_part : (Reply → Bool) → List (List Answer) → Bool
some_part test answers = list_any (λ script. list_any (λ answer. list_any test answer.parts) script) answers

-- some entry wasn't saved
abbrev pub has_lost : List (List Answer) → Bool
has_lost answers = some_part (says is_lost) answers

-- some entry wasn't saved for want of room
abbrev pub has_full : List (List Answer) → Bool
has_full answers = some_part (says is_full) answers

-- the status of a command that was done and whose result was written
abbrev pub run_status : Report → ℕ
run_status report = if has_lost report.answers then 4 else if has_unknown report.answers then 3 else 0

-- a text was written whole, with the status of a run, or the sink failed, with status 13
abbrev pub Ends : List ℕ → ℕ → Change SinkState → ℕ → Type 0
Ends text run sink status = (Takes text sink × (status ≡ run)) ⊎ (IsCutOff text sink × (status ≡ 13))

-- the text is what the call wrote of its result
abbrev pub WritesResult : {D : Type 0} → List ℕ → Call D → Type 0
WritesResult text call = Ends text (run_status call.report) call.sink call.status

-- ---- a call that was refused

-- the status of each fault
abbrev pub status_of : Fault → ℕ
status_of Usage = 10
status_of (Text fault) = 11
status_of Read = 12
status_of Disk = 14
status_of NoMemory = 16
status_of NotJournal = 17
status_of TooLong = 18

-- the fault of a call whose file can't be opened
abbrev pub fault_of_start : StartFault → Fault
fault_of_start start.Disk = Disk
fault_of_start start.NotJournal = NotJournal
fault_of_start start.NoMemory = NoMemory

-- a report of nothing
pub record IsEmpty (report : Report) : Type 0 where
  pub session : report.session ≡ []
  pub answers : report.answers ≡ []
  pub log : report.log ≡ []
  pub entries : report.entries ≡ []
  pub saved : report.saved ≡ 0

-- the fault's line went to the sink, and its status is the answer
pub record WritesFault (fault : Fault) (sink : Change SinkState) (status : ℕ) : Type 0 where
  pub number : status ≡ status_of fault
  pub line : Writes (line_of fault) sink

-- A fault is written as itself; one of a text also as want of memory, since its line takes memory. Want of memory is
-- written as no fault of a text.
abbrev pub IsWrittenAs : Fault → Fault → Type 0
IsWrittenAs (Text fault) written = ((written ≡ Text fault) × (fault.kind ≢ kind.NoMemory)) ⊎ (written ≡ NoMemory)
IsWrittenAs fault written = written ≡ fault

-- the fault was written, as itself or as what stands for it
pub record FaultIsWritten (fault : Fault) (sink : Change SinkState) (status : ℕ) : Type 0 where
  pub written : Fault
  pub for_it : IsWrittenAs fault written
  pub writes : WritesFault written sink status

-- The call was refused for a fault that has its cause, which the command gives: its status, its line and nothing else
-- to the sink, and an empty report.
pub record IsRefused {D : Type 0} (cause : Fault → Type 0) (call : Call D) : Type 0 where
  pub fault : Fault
  pub reason : cause fault
  pub writes : WritesFault fault call.sink call.status
  pub nothing : IsEmpty call.report
