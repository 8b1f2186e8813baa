-- What the reader of a session answers for the text from a place on.
use Rattle.std.specs.Prelude.{ℕ, ◌==◌, false, List, if◌then◌else◌}
use Rattle.lin_text.specs.declared.fault.SessionKind.{SessionKind}
use Rattle.lin_text.specs.declared.refusal.Fault.{Fault}
use Rattle.lin_text.specs.declared.refusal.ReadError.{ReadError}
use Rattle.lin_text.specs.FirstFaults.{HasFaultFrom as FaultFrom}
use Rattle.lin_text.specs.Answers.{IsErrorOf}
use Rattle.session_text.specs.declared.refusal.Counts.{Counts}
use Rattle.session_text.specs.Faults.{Part, header, executor, Seen, rules, HasFault}

-- the fault of the lines from a place on, above which so much was seen
abbrev pub HasFaultFrom : Seen → List ℕ → ℕ → SessionKind → ℕ → Type 0
HasFaultFrom seen bytes = FaultFrom rules false bytes seen

-- it is that fault
abbrev pub IsFaultFrom : Seen → List ℕ → ℕ → Fault SessionKind → Type 0
IsFaultFrom seen bytes at f = HasFaultFrom seen bytes at f.kind f.at

-- `NoMemory`, or it is that fault
abbrev pub IsReadError : Seen → List ℕ → ℕ → ReadError SessionKind → Type 0
IsReadError seen bytes at = IsErrorOf (HasFaultFrom seen bytes at)

-- what was seen, by what came last and how often the words came
abbrev pub seen_with : Part → Counts → Seen
seen_with part counts = record { part = part; executors = counts.executors; queries = counts.queries }

-- what came last above a line that neither belongs to a query nor comes behind the end line
abbrev pub part_after : ℕ → Part
part_after executors = if executors == 0 then header else executor

-- what was seen above an executor line or the end line, by how often the words came
abbrev pub seen_between : Counts → Seen
seen_between counts = seen_with (part_after counts.executors) counts

-- `NoMemory`, or it is the fault of the whole text
abbrev pub IsSessionError : List ℕ → ReadError SessionKind → Type 0
IsSessionError bytes = IsErrorOf (HasFault bytes)
