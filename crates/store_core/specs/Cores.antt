-- What contracts see of a core, and what its type keeps.
use Rattle.std.specs.Prelude.{◌≡◌, ℕ, ◌≤◌, Option, Some, None, List, [], length, map}
use Rattle.std.specs.List.{slice_get}
use Rattle.cert_check.specs.declared.entry.Entry.{Entry}
use Rattle.cert_check.specs.declared.event.Event.{Event}
use Rattle.cert_check.specs.declared.event.Event.TheVariants.{Begun, Ended}
use Rattle.cert_check.specs.declared.event.Ending.{Ending}
use Rattle.cert_check.specs.declared.event.Ending.TheVariants.{Kept, Unkept, Spent, Failed}
use Rattle.cert_check.specs.Machine.{CoreState, Turn, begun, kept, unkept, spent, failed, AreApart, max_entries}
use Rattle.cert_check.specs.Logs.{IsLegalLog, IsLogOf, replayed, start}
use Rattle.layers.specs.Layers.{one_layer}

-- the entries that the core began with, its state, the layers in which the version has the entries, and the events
-- since it began
pub record PlainCore : Type 0 where
  pub opening : List Entry
  pub state : CoreState
  pub layers : List (List Entry)
  pub events : List Event

-- the core before any event
abbrev pub started : List Entry → PlainCore
started opening = record { opening = opening; state = start opening; layers = one_layer opening; events = [] }

-- the turn of an entry that was kept at a place; where there is none, the flight counts as failed
abbrev pub kept_turn : ℕ → ℕ → Option Entry → Turn
kept_turn seat place None = failed seat
kept_turn seat place (Some entry) = kept seat place entry

-- the turn that ended a flight, by the list that has the kept entries at their places
abbrev pub end_turn : List Entry → ℕ → Ending → Turn
end_turn entries seat (Kept place) = kept_turn seat place (slice_get entries place)
end_turn entries seat Unkept = unkept seat
end_turn entries seat Spent = spent seat
end_turn entries seat Failed = failed seat

-- the turn that an event tells of
abbrev pub turn_of : List Entry → Event → Turn
turn_of entries (Begun seat key n) = begun seat key n
turn_of entries (Ended seat how) = end_turn entries seat how

-- the log that the events tell of
abbrev pub log_of : PlainCore → List Turn
log_of core = map (turn_of core.state.entries) core.events

-- The log is a legal one of these events, and leads to the state; no two flights have one seat or one key.
pub record IsCore (core : PlainCore) : Type 0 where
  pub told : IsLogOf core.state.entries core.events (log_of core)
  pub legal : IsLegalLog core.opening (log_of core) core.state.entries
  pub leads : replayed (start core.opening) (log_of core) ≡ core.state
  pub apart : AreApart core.state.flights
  pub few : length core.state.entries ≤ max_entries
