-- A flight of the one seat, and what the journal noted in it.
use Rattle.std.proofs.Common.{◌≡◌, ℕ, ◌≤◌, Some, List, length, arith}
use Rattle.std.specs.List.{All}
use Rattle.lin_model.specs.KeyAtom.{PlainKeyAtom}
use Rattle.cert_check.specs.declared.wrote.Wrote.{Wrote}
use Rattle.cert_check.specs.Calls.{MakesCall}
use Rattle.cert_check.specs.Machine.{Turn}
use Rattle.cert_check.specs.Replies.{HasFlown}
use Rattle.cert_check.specs.Seats.{SeatState, entries_of, writer_of}
use Rattle.journal.specs.Journals.{origin_of}
use Rattle.store_core.specs.Cores.{IsCore, log_of}
use Rattle.store_core.specs.Laws.{CoresTakeTurns}
use Rattle.shared_store.specs.declared.books.Books.{Books}
use Rattle.shared_store.specs.Flights.{Flies, Notes, own_seat}
use Rattle.shared_store.specs.Local.{IsJournalOf, IsOwn, seat_of_both}
use Rattle.shared_store.proofs.OwnLemmas as own_lemmas
use Rattle.shared_store.proofs.OwnLemmas.{IsOwnEnd, entries_seen, own_is_sound, core_after_flight}
use Rattle.shared_store.proofs.WritesLemmas.{journal_after}

-- what the one seat has seen of both
abbrev pub seat : {D : Type 0} → Books D → SeatState
seat books = seat_of_both books.core books.journal

-- a flight of the one seat, and what the journal noted in it
pub record Flown {D : Type 0} (key : List PlainKeyAtom) (end : Turn) (writes : List Wrote) (old new : Books D) : Type 0
  where
    pub is_end : IsOwnEnd end
    pub flies : Flies key end old.core new.core
    pub own : All (λ w. writer_of w ≡ own_seat) writes
    pub notes : Notes writes old.journal new.journal

-- the store between calls
pub record IsAtRest {D : Type 0} (books : Books D) : Type 0 where
  pub own : IsOwn books.core
  pub journal : IsJournalOf books.core books.journal

-- the store is at rest again, and the origin of its journal stays
pub record RestsAgain {D : Type 0} (old new : Books D) : Type 0 where
  pub own : IsOwn new.core
  pub journal : IsJournalOf new.core new.journal
  pub origin : origin_of new.journal ≡ origin_of old.journal

module _ {D : Type 0} (law : CoresTakeTurns) (key : List PlainKeyAtom) (end : Turn) (writes : List Wrote)
    (old new : Books D) (own : IsOwn old.core) (flown : Flown key end writes old new) where
  -- a core again
  pub core_now : IsCore new.core
  core_now = core_after_flight law key end old.core new.core own.is_core flown.flies

  -- the store after it
  pub rests : IsJournalOf old.core old.journal → RestsAgain old new
  rests journal = record {
    own = own_lemmas.is_own key end old.core new.core flown.is_end own core_now flown.flies;
    journal = journal_after writes old.journal new.journal old.core new.core journal flown.own flown.notes
        (own_lemmas.opening_stays key end old.core new.core flown.is_end own core_now flown.flies);
    origin = flown.notes.origin;
  }

  -- the entries that are seen
  pub seen : entries_of (seat new) ≡ new.core.state.entries
  seen = entries_seen new.core new.journal core_now

  -- while it was open, they stood as before
  pub mid_entries : flown.flies.mid.state.entries ≡ old.core.state.entries
  mid_entries = own_lemmas.mid_entries key end old.core new.core flown.is_end own core_now flown.flies

  -- the call of the flight
  pub call_of : (n : ℕ) → length old.core.state.entries ≤ n → n ≤ length new.core.state.entries
      → MakesCall key (length old.core.state.entries) (Some end) writes n (seat old) (seat new)
  call_of n from to = record {
    looked = omega arith;
    gains = own_lemmas.gains key end old.core new.core flown.is_end own core_now flown.flies writes old.journal new.journal
        flown.own flown.notes;
    sound = own_is_sound new.core new.journal
        (own_lemmas.is_own key end old.core new.core flown.is_end own core_now flown.flies);
    from = from;
    to = to;
  }

  -- the flight in the log
  pub has_flown : HasFlown (log_of new.core) own_seat key (length old.core.state.entries) end
  has_flown = own_lemmas.has_flown key end old.core new.core flown.is_end own core_now flown.flies
