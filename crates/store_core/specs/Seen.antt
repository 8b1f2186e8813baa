-- What a seat had seen when it began its flight, by the events.
use Rattle.std.specs.Prelude.{◌≡◌, ◌≢◌, ℕ, List, ◌∷◌, ◌++◌}
use Rattle.std.specs.List.{All}
use Rattle.lin_model.specs.KeyAtom.{PlainKeyAtom}
use Rattle.cert_check.specs.declared.event.Event.{Event}
use Rattle.cert_check.specs.declared.event.Event.TheVariants.{Begun, Ended}

-- whose event it is
abbrev pub event_seat : Event → ℕ
event_seat (Begun seat key n) = seat
event_seat (Ended seat how) = seat

-- how many entries the seat had seen where the event is the beginning of a flight, and else 0
abbrev pub event_seen : Event → ℕ
event_seen (Begun seat key n) = n
event_seen (Ended seat how) = 0

-- the last event of the seat is that it began a flight when it had seen so many entries
pub record BeganLast (events : List Event) (seat seen : ℕ) : Type 0 where
  pub front : List Event
  pub key : List PlainKeyAtom
  pub behind : List Event
  pub parts : events ≡ front ++ Begun seat key seen ∷ behind
  pub others : All (λ e. event_seat e ≢ seat) behind
