-- What a seat has seen of a store, and how a call adds to it.
use Rattle.std.specs.Prelude.{◌≡◌, ℕ, ◌≤◌, Bool, ◌==◌, List, ◌++◌, length, filter}
use Rattle.cert_check.specs.declared.entry.Entry.{Entry}
use Rattle.cert_check.specs.declared.wrote.Wrote.{Wrote}
use Rattle.cert_check.specs.declared.wrote.Wrote.TheVariants.{At, Fault, Full}
use Rattle.cert_check.specs.Machine.{Turn, seat_of}
use Rattle.cert_check.specs.Logs.{IsIdle, IsLegalLog, entries_after}

-- what stays with a seat: its number, the entries that the store began with, and whether the journal is off
pub record SeatTerms : Type 0 where
  pub number : ℕ
  pub opening : List Entry
  pub off : Bool

-- a seat: its terms, the log of the store that it has seen, how many of the entries after it it has seen, and the
-- writes of the journal that it has seen
pub record SeatState : Type 0 where
  pub terms : SeatTerms
  pub log : List Turn
  pub seen : ℕ
  pub wrotes : List Wrote

-- the entries after the log that a seat has seen
abbrev pub entries_of : SeatState → List Entry
entries_of seat = entries_after seat.terms.opening seat.log

-- whose write it was
abbrev pub writer_of : Wrote → ℕ
writer_of (At seat at entry) = seat
writer_of (Fault seat) = seat
writer_of (Full seat entry) = seat

-- the turns of a seat, and its writes
abbrev pub turns_of : ℕ → List Turn → List Turn
turns_of number log = filter (λ turn. seat_of turn == number) log

abbrev pub wrotes_of : ℕ → List Wrote → List Wrote
wrotes_of number wrotes = filter (λ w. writer_of w == number) wrotes

-- the seat has seen more: its terms stay, its log and its writes go on, and it has seen at least as many entries
pub record Grows (old new : SeatState) : Type 0 where
  pub terms : new.terms ≡ old.terms
  pub turns : List Turn
  pub log : new.log ≡ old.log ++ turns
  pub writes : List Wrote
  pub wrotes : new.wrotes ≡ old.wrotes ++ writes
  pub no_less : old.seen ≤ new.seen

-- a seat whose log is legal, which has seen no more entries than there are after it, and which has no open flight
pub record IsSound (seat : SeatState) : Type 0 where
  pub legal : IsLegalLog seat.terms.opening seat.log (entries_of seat)
  pub within : seat.seen ≤ length (entries_of seat)
  pub idle : IsIdle seat.terms.opening seat.log seat.terms.number

-- What a seat gains: of its own turns and writes just these.
pub record Gains (own : List Turn) (writes : List Wrote) (old new : SeatState) : Type 0 where
  pub grows : Grows old new
  pub own_turns : turns_of new.terms.number new.log ≡ turns_of new.terms.number old.log ++ own
  pub own_writes : wrotes_of new.terms.number new.wrotes ≡ wrotes_of new.terms.number old.wrotes ++ writes
