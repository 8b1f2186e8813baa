-- A session that was answered over one store.
use Rattle.std.specs.Prelude.{◌≡◌, ℕ, Bool, true, false, List, [], ◌∷◌, ◌++◌, length, filter}
use Rattle.std.specs.List.{All, AllZip}
use Rattle.lin_model.specs.KeyAtom.{PlainKeyAtom}
use Rattle.cert_check.specs.declared.entry.Entry.{Entry}
use Rattle.cert_check.specs.declared.reply.Reply.{Reply}
use Rattle.cert_check.specs.declared.reply.Reply.TheVariants.{Hit, Solved, Unkept, Spent}
use Rattle.cert_check.specs.declared.saved.Saved.{Saved}
use Rattle.cert_check.specs.declared.saved.Saved.TheVariants.{At, Fault, Full, Off}
use Rattle.cert_check.specs.declared.wrote.Wrote.{Wrote}
use Rattle.cert_check.specs.Asks.{SavesRightly}
use Rattle.cert_check.specs.Laws.{BeganRightly}
use Rattle.cert_check.specs.Logs.{IsLegalLog, IsLogOf}
use Rattle.cert_check.specs.Machine.{Turn, begun, seat_of}
use Rattle.cert_check.specs.Replies.{Stands, StandsFor}
use Rattle.cert_check.specs.Runs.{AreTurnsOfAll, SeenNeverFalls, flights_of, flown_in, writes_of_all}
use Rattle.cert_check.specs.Seats.{SeatState, turns_of}
use Rattle.pipeline.specs.Answers.{IsRightAnswer}
use Rattle.pipeline.specs.Runs.{AnswersAll, AreRightFor, parts_of}
use Rattle.green_cli.specs.declared.outcome.Report.{Report}

-- what executors ask, or are answered, one executor behind the other
abbrev pub in_order : {X : Type 0} → List (List X) → List X
in_order [] = []
in_order (script ∷ scripts) = script ++ in_order scripts

-- the replies to all slices that were asked, in order
abbrev pub all_parts : Report → List Reply
all_parts report = parts_of (in_order report.answers)

-- One right answer for each query of each executor, in order: its replies stand for the report's log with its entries,
-- at this seat and budget.
abbrev pub AreRight : ℕ → ℕ → Report → Type 0
AreRight seat budget report = AllZip (λ queries script. AllZip
    (λ q answer. IsRightAnswer (StandsFor report.log report.entries seat budget) q answer) queries script)
    report.session report.answers

-- each flight in the log began when its seat had seen all entries, and none of them decided its key
abbrev pub FlightsBeganRightly : List Entry → List Entry → List Turn → Type 0
FlightsBeganRightly opening entries log = (front behind : List Turn) (seat n : ℕ) (key : List PlainKeyAtom)
    → log ≡ front ++ begun seat key n ∷ behind → BeganRightly opening entries front key n

-- The log tells the report's events, and is a legal one from the opening entries to those of the report.
pub record IsLogOfStore (opening : List Entry) (report : Report) (log : List Turn) : Type 0 where
  pub is_log : IsLogOf report.entries report.log log
  pub legal : IsLegalLog opening log report.entries
  pub began : FlightsBeganRightly opening report.entries log

-- The seat's turns in the log are those of the flights of its replies that are no hits, in order. The numbers of
-- entries seen never fall.
pub record IsLogOfSeat (seat budget : ℕ) (opening : List Entry) (report : Report) (log : List Turn) : Type 0 where
  pub keys : List (List PlainKeyAtom)
  pub right : AreRightFor (Stands log report.entries seat budget) (in_order report.session) (in_order report.answers)
      keys
  pub turns : AreTurnsOfAll seat keys (all_parts report) (turns_of seat log)
  pub seen : SeenNeverFalls (length opening) (all_parts report) (length report.entries)

-- what the one seat of a store has seen after this log and these writes: all
abbrev pub seat_after : ℕ → List Entry → Bool → List Turn → List Entry → List Wrote → SeatState
seat_after seat opening off log entries wrotes = record {
  terms = record { number = seat; opening = opening; off = off };
  log = log;
  seen = length entries;
  wrotes = wrotes;
}

-- The queries were answered in order by the one seat of a store, which began with these opening entries: each reply is
-- one that the seat could have at that moment, and nothing else was asked. What the journal wrote, it wrote for these
-- replies, in order.
pub record LogIsLegal (seat budget : ℕ) (opening : List Entry) (off : Bool) (report : Report) : Type 0 where
  pub log : List Turn
  pub of_store : IsLogOfStore opening report log
  pub of_seat : IsLogOfSeat seat budget opening report log
  pub alone : All (λ turn. seat_of turn ≡ seat) log
  pub answered : AnswersAll budget (in_order report.session) (in_order report.answers)
      (seat_after seat opening off [] opening [])
      (seat_after seat opening off log report.entries (writes_of_all seat (all_parts report)))

-- What an entry decides isn't solved: as many flights began as there are replies that are no hits.
abbrev pub FlightsAreCounted : ℕ → Report → Type 0
FlightsAreCounted seat report = flights_of seat report.log ≡ flown_in (all_parts report)

-- an entry was saved
abbrev pub is_saved : Saved → Bool
is_saved (At at) = true
is_saved Fault = false
is_saved Full = false
is_saved Off = false

-- something is said of what became of a reply's own entry
abbrev pub says : (Saved → Bool) → Reply → Bool
says said (Hit entry place n) = false
says said (Solved entry place n saved) = said saved
says said (Unkept entry n saved) = said saved
says said (Spent tree n) = false

-- the report counts them
abbrev pub SavedAreCounted : Report → Type 0
SavedAreCounted report = report.saved ≡ length (filter (says is_saved) (all_parts report))

-- each entry of a flight carries Off exactly where there is no journal
abbrev pub SavesAreRight : List Entry → Bool → Report → Type 0
SavesAreRight opening off report =
    All (SavesRightly (record { number = 0; opening = opening; off = off })) (all_parts report)

-- the report of a session that was answered by the seat 0 of a store that began with these entries, without a journal
-- where that is off
pub record IsRightReport (budget : ℕ) (opening : List Entry) (off : Bool) (report : Report) : Type 0 where
  pub answers : AreRight 0 budget report
  pub log : LogIsLegal 0 budget opening off report
  pub flights : FlightsAreCounted 0 report
  pub saves : SavesAreRight opening off report
  pub saved : SavedAreCounted report
