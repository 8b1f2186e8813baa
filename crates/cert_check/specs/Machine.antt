-- The core machine: a list of entries, the flights that are open, and the turns that change them. A flight is one
-- seat's attempt to answer one key.
use Rattle.std.specs.Prelude.{◌≡◌, ◌≢◌, ℕ, ◌^◌, ◌<◌, ◌≤◌, not, ◌==◌, List, [], ◌∷◌, ◌++◌, length, take, filter}
use Rattle.std.specs.List.{All, AllPairs, Any}
use Rattle.lin_model.specs.KeyAtom.{PlainKeyAtom}
use Rattle.cert_check.specs.declared.entry.Entry.{Entry}
use Rattle.cert_check.specs.declared.event.Event.{Event}
use Rattle.cert_check.specs.declared.flight.Flight.{Flight}
use Rattle.cert_check.specs.declared.event.Event.TheVariants.{Begun, Ended}
use Rattle.cert_check.specs.declared.event.Ending.TheVariants.{Kept, Unkept, Spent, Failed}
use Rattle.cert_check.specs.Decides.{Decides, NoneDecides}

-- the most entries of a store
abbrev pub max_entries : ℕ
max_entries = 2 ^ 20

-- the entries, in the order in which they came, and the flights that are open
pub record CoreState : Type 0 where
  pub entries : List Entry
  pub flights : List Flight

-- One turn that changed the machine. `kept` has the entry that went to the end of the list, beside its place.
pub data Turn : Type 0 where
  begun : (seat : ℕ) → (key : List PlainKeyAtom) → (seen : ℕ) → Turn
  kept : (seat : ℕ) → (place : ℕ) → (entry : Entry) → Turn
  unkept : (seat : ℕ) → Turn
  spent : (seat : ℕ) → Turn
  failed : (seat : ℕ) → Turn

-- whose turn it was
abbrev pub seat_of : Turn → ℕ
seat_of (begun seat key seen) = seat
seat_of (kept seat place entry) = seat
seat_of (unkept seat) = seat
seat_of (spent seat) = seat
seat_of (failed seat) = seat

-- the event that tells of a turn
abbrev pub event_of : Turn → Event
event_of (begun seat key seen) = Begun seat key seen
event_of (kept seat place entry) = Ended seat (Kept place)
event_of (unkept seat) = Ended seat Unkept
event_of (spent seat) = Ended seat Spent
event_of (failed seat) = Ended seat Failed

-- the seat has a flight on this key
abbrev pub IsFlying : CoreState → ℕ → List PlainKeyAtom → Type 0
IsFlying s seat key = Any (λ f. f ≡ record { seat = seat; key = key }) s.flights

-- the seat has a flight
abbrev pub HasFlight : CoreState → ℕ → Type 0
HasFlight s seat = Any (λ f. f.seat ≡ seat) s.flights

-- A seat may enter with a key where it has no flight, and none of the entries that it has seen decides the key.
pub record MayEnter (s : CoreState) (seat : ℕ) (key : List PlainKeyAtom) (seen : ℕ) : Type 0 where
  pub within : seen ≤ length s.entries
  pub undecided : NoneDecides (take seen s.entries) key
  pub free_seat : All (λ f. f.seat ≢ seat) s.flights

-- There are entries that it hasn't seen.
abbrev pub IsBehind : CoreState → ℕ → Type 0
IsBehind s seen = seen < length s.entries

-- It has seen all entries, and another seat has a flight on the key.
pub record IsJoined (s : CoreState) (other : ℕ) (key : List PlainKeyAtom) (seen : ℕ) : Type 0 where
  pub up_to_date : seen ≡ length s.entries
  pub flying : IsFlying s other key

-- A flight may begin where a seat may enter, has seen all entries, and no seat has a flight on the key.
pub record MayBegin (s : CoreState) (seat : ℕ) (key : List PlainKeyAtom) (seen : ℕ) : Type 0 where
  pub up_to_date : seen ≡ length s.entries
  pub undecided : NoneDecides s.entries key
  pub free_seat : All (λ f. f.seat ≢ seat) s.flights
  pub free_key : All (λ f. f.key ≢ key) s.flights

-- A flight may end with an entry that decides its key, where there is room for one more.
pub record MayKeep (s : CoreState) (seat place : ℕ) (entry : Entry) : Type 0 where
  pub key : List PlainKeyAtom
  pub flying : IsFlying s seat key
  pub decides : Decides entry key
  pub room : length s.entries < max_entries
  pub at_end : place ≡ length s.entries

-- It may end without keeping its entry where there is no room.
pub record MayGoUnkept (s : CoreState) (seat : ℕ) : Type 0 where
  pub flying : HasFlight s seat
  pub full : length s.entries ≡ max_entries

-- where each turn is possible
abbrev pub MayCome : CoreState → Turn → Type 0
MayCome s (begun seat key seen) = MayBegin s seat key seen
MayCome s (kept seat place entry) = MayKeep s seat place entry
MayCome s (unkept seat) = MayGoUnkept s seat
MayCome s (spent seat) = HasFlight s seat
MayCome s (failed seat) = HasFlight s seat

-- the flights of the other seats
abbrev pub without : ℕ → List Flight → List Flight
without seat flights = filter (λ f. not (f.seat == seat)) flights

-- what each turn leaves
abbrev pub after : CoreState → Turn → CoreState
after s (begun seat key seen) = record {
  entries = s.entries;
  flights = s.flights
      ++ record { seat = seat; key = key } ∷ [];
}
after s (kept seat place entry) = record { entries = s.entries ++ entry ∷ []; flights = without seat s.flights }
after s (unkept seat) = record { entries = s.entries; flights = without seat s.flights }
after s (spent seat) = record { entries = s.entries; flights = without seat s.flights }
after s (failed seat) = record { entries = s.entries; flights = without seat s.flights }

-- no two flights have one seat or one key
pub record AreApart (flights : List Flight) : Type 0 where
  pub seats : AllPairs (λ f g. f.seat ≢ g.seat) flights
  pub keys : AllPairs (λ f g. f.key ≢ g.key) flights
