-- Logs of the core machine: which are legal, and what they lead to.
use Rattle.std.specs.Prelude.{◌≡◌, ◌≢◌, ℕ, Some, List, [], ◌∷◌, map}
use Rattle.std.specs.List.{All, slice_get}
use Rattle.cert_check.specs.declared.entry.Entry.{Entry}
use Rattle.cert_check.specs.declared.event.Event.{Event}
use Rattle.cert_check.specs.Machine.{CoreState, Turn, begun, kept, unkept, spent, failed, MayCome, after, event_of}

-- the state that a log leads to
abbrev pub replayed : CoreState → List Turn → CoreState
replayed s [] = s
replayed s (turn ∷ log) = replayed (after s turn) log

-- each turn of the log was possible when it came
abbrev pub IsPossible : CoreState → List Turn → Type 0
IsPossible s [] = Unit {0}
IsPossible s (turn ∷ log) = MayCome s turn × IsPossible (after s turn) log

-- the machine with these entries, before any turn
abbrev pub start : List Entry → CoreState
start opening = record { entries = opening; flights = [] }

-- the entries after a log
abbrev pub entries_after : List Entry → List Turn → List Entry
entries_after opening log = (replayed (start opening) log).entries

-- the log is possible from the opening entries, and leads to these
pub record IsLegalLog (opening : List Entry) (log : List Turn) (entries : List Entry) : Type 0 where
  pub possible : IsPossible (start opening) log
  pub leads : entries_after opening log ≡ entries

-- a kept entry stands at its place
abbrev pub StandsAtPlace : List Entry → Turn → Type 0
StandsAtPlace entries (begun seat key seen) = Unit {0}
StandsAtPlace entries (kept seat place entry) = slice_get entries place ≡ Some entry
StandsAtPlace entries (unkept seat) = Unit {0}
StandsAtPlace entries (spent seat) = Unit {0}
StandsAtPlace entries (failed seat) = Unit {0}

-- the log tells these events, and its kept entries stand at their places in the list
pub record IsLogOf (entries : List Entry) (events : List Event) (log : List Turn) : Type 0 where
  pub tells : map event_of log ≡ events
  pub places : All (StandsAtPlace entries) log

-- the seat has no open flight after the log
abbrev pub IsIdle : List Entry → List Turn → ℕ → Type 0
IsIdle opening log seat = All (λ f. f.seat ≢ seat) (replayed (start opening) log).flights
