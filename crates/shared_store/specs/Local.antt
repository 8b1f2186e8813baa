-- What contracts see of a store for one thread.
use Rattle.std.specs.Prelude.{◌≡◌, ℕ, ◌≤◌, [], length}
use Rattle.std.specs.List.{All}
use Rattle.cert_check.specs.Machine.{seat_of}
use Rattle.cert_check.specs.Seats.{SeatState, writer_of}
use Rattle.journal.specs.Journals.{PlainJournal}
use Rattle.store_core.specs.Cores.{PlainCore, IsCore, log_of}
use Rattle.shared_store.specs.Flights.{own_seat}

-- a core and a journal, and the splits that each key may take
pub record PlainStore (D : Type 0) : Type 0 where
  pub core : PlainCore
  pub journal : PlainJournal D
  pub budget : ℕ

-- what the one seat has seen of a core and a journal, which is all
abbrev pub seat_of_both : {D : Type 0} → PlainCore → PlainJournal D → SeatState
seat_of_both core journal = record {
  terms = record { number = own_seat; opening = core.opening; off = journal.off };
  log = log_of core;
  seen = length core.state.entries;
  wrotes = journal.wrotes;
}

-- what the one seat of a store has seen
abbrev pub seat_of_store : {D : Type 0} → PlainStore D → SeatState
seat_of_store store = seat_of_both store.core store.journal

-- a core between the calls of its one seat: it has no flight, and all that happened was this seat's
pub record IsOwn (core : PlainCore) : Type 0 where
  pub is_core : IsCore core
  pub landed : core.state.flights ≡ []
  pub own : All (λ turn. seat_of turn ≡ own_seat) (log_of core)

-- the journal began with the entries that the core began with, and wrote for the one seat alone
pub record IsJournalOf {D : Type 0} (core : PlainCore) (journal : PlainJournal D) : Type 0 where
  pub opening : journal.opening ≡ core.opening
  pub own : All (λ w. writer_of w ≡ own_seat) journal.wrotes

-- what the type keeps
pub record IsStore {D : Type 0} (store : PlainStore D) : Type 0 where
  pub own : IsOwn store.core
  pub journal : IsJournalOf store.core store.journal
  pub some : 1 ≤ store.budget
  pub few : store.budget ≤ 100000
