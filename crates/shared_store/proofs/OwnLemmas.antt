-- What a flight of the one seat leaves.
use Rattle.std.proofs.Common.{◌≡◌, ◌≢◌, ◌∙◌, ℕ, ◌≤◌, ◌==◌, Bool, List, [], ◌∷◌, ◌++◌, length, arith, refl, sym, ap}
use Rattle.std.proofs.Common.{subst}
use Rattle.std.specs.List.{All}
use Rattle.std.proofs.lemmas.List.{append_assoc, length_push}
use Rattle.std.proofs.lemmas.List.Elements.{All-nil, All-push, filter-append}
use Rattle.lin_model.specs.KeyAtom.{PlainKeyAtom}
use Rattle.cert_check.specs.declared.entry.Entry.{Entry}
use Rattle.cert_check.specs.declared.event.Event.{Event}
use Rattle.cert_check.specs.declared.flight.Flight.{Flight}
use Rattle.cert_check.specs.declared.wrote.Wrote.{Wrote}
use Rattle.cert_check.specs.Machine.{CoreState, Turn, begun, kept, unkept, spent, failed, after, seat_of, without}
use Rattle.cert_check.specs.Logs.{IsLegalLog}
use Rattle.cert_check.specs.Replies.{HasFlown}
use Rattle.cert_check.specs.Seats.{Gains, IsSound, entries_of, turns_of, writer_of, wrotes_of}
use Rattle.journal.specs.Journals.{PlainJournal}
use Rattle.store_core.specs.Cores.{PlainCore, IsCore, log_of}
use Rattle.store_core.specs.Laws.{CoresTakeTurns}
use Rattle.store_core.specs.Steps.{TakesTurn}
use Rattle.shared_store.specs.Flights.{Flies, Notes, own_seat}
use Rattle.shared_store.specs.Local.{IsOwn, seat_of_both}
use Rattle.shared_store.proofs.WritesLemmas.{off_stays, own_writes}

-- a turn by which a flight of the one seat ends
pub record IsOwnEnd (end : Turn) : Type 0 where
  pub seat : seat_of end ≡ own_seat
  pub mine : turns_of own_seat (end ∷ []) ≡ end ∷ []
  pub flights : (s : CoreState) → (after s end).flights ≡ without own_seat s.flights
  pub grow : (s : CoreState) → length s.entries ≤ length (after s end).entries

pub kept_is_end : (place : ℕ) (entry : Entry) → IsOwnEnd (kept own_seat place entry)
kept_is_end place entry = record {
  seat = refl;
  mine = refl;
  flights = λ s. refl;
  grow = λ s. omega (arith, length_push s.entries entry);
}

pub unkept_is_end : IsOwnEnd (unkept own_seat)
unkept_is_end = record { seat = refl; mine = refl; flights = λ s. refl; grow = λ s. omega arith }

pub spent_is_end : IsOwnEnd (spent own_seat)
spent_is_end = record { seat = refl; mine = refl; flights = λ s. refl; grow = λ s. omega arith }

pub failed_is_end : IsOwnEnd (failed own_seat)
failed_is_end = record { seat = refl; mine = refl; flights = λ s. refl; grow = λ s. omega arith }

-- a core that took a turn is a core
core_after : CoresTakeTurns → (turn : Turn) (old new : PlainCore) → IsCore old → TakesTurn turn old new → IsCore new
core_after law turn old new is takes =
    subst (λ (es : List Entry).
    IsCore (record { opening = es; state = new.state; layers = new.layers; events = new.events }))
    (sym takes.opening)
    (subst (λ (s : CoreState).
    IsCore (record { opening = old.opening; state = s; layers = new.layers; events = new.events }))
    (sym takes.state)
    (subst (λ (es : List Event).
    IsCore (record { opening = old.opening; state = after old.state turn; layers = new.layers; events = es }))
    (sym takes.events) (law old turn new.layers is takes.possible takes.layers).is_core))

-- and so is one after a flight
pub core_after_flight : CoresTakeTurns → (key : List PlainKeyAtom) (end : Turn) (old new : PlainCore) → IsCore old
    → Flies key end old new → IsCore new
core_after_flight law key end old new is flies =
    core_after law end flies.mid new
    (core_after law (begun own_seat key (length old.state.entries)) old flies.mid is flies.began) flies.ended

-- the entries after what the seat has seen are those of the core
pub entries_seen : {D : Type 0} (core : PlainCore) (journal : PlainJournal D) → IsCore core
    → entries_of (seat_of_both core journal) ≡ core.state.entries
entries_seen core journal is = is.legal.leads

-- such a seat is sound
pub own_is_sound : {D : Type 0} (core : PlainCore) (journal : PlainJournal D) → IsOwn core
    → IsSound (seat_of_both core journal)
own_is_sound core journal own = record {
  legal = subst (IsLegalLog core.opening (log_of core)) (sym (entries_seen core journal own.is_core)) own.is_core.legal;
  within = omega (arith, ap length (entries_seen core journal own.is_core));
  idle = subst (λ (s : CoreState). All (λ f. f.seat ≢ own_seat) s.flights) (sym own.is_core.leads)
      (subst (All (λ f. f.seat ≢ own_seat)) (sym own.landed) (All-nil (λ (f : Flight). f.seat ≢ own_seat)));
}

-- a flight of the one seat
module _ (key : List PlainKeyAtom) (end : Turn) (old new : PlainCore) (is_end : IsOwnEnd end) (own : IsOwn old)
    (core : IsCore new)
    (flies : Flies key end old new) where
  -- the turn that began it
  abbrev start_turn : Turn
  start_turn = begun own_seat key (length old.state.entries)

  pub mid_entries : flies.mid.state.entries ≡ old.state.entries
  mid_entries = ap (λ (s : CoreState). s.entries) flies.began.state

  mid_flights : flies.mid.state.flights ≡ record { seat = own_seat; key = key } ∷ []
  mid_flights = ap (λ (s : CoreState). s.flights) flies.began.state
      ∙ ap (λ (fs : List Flight). fs ++ record { seat = own_seat; key = key } ∷ []) own.landed

  -- the log has both turns more
  pub longer : log_of new ≡ (log_of old ++ begun own_seat key (length old.state.entries) ∷ []) ++ end ∷ []
  longer = flies.ended.log ∙ ap (λ (log : List Turn). log ++ end ∷ []) flies.began.log

  pub has_flown : HasFlown (log_of new) own_seat key (length old.state.entries) end
  has_flown = record {
    before = log_of old;
    between = [];
    behind = [];
    parts = longer;
    alone = All-nil (λ turn. seat_of turn ≢ own_seat);
  }

  pub opening_stays : new.opening ≡ old.opening
  opening_stays = flies.ended.opening ∙ flies.began.opening

  -- entries are as the end leaves them
  pub entries_new : new.state.entries ≡ (after flies.mid.state end).entries
  entries_new = ap (λ (s : CoreState). s.entries) flies.ended.state

  pub no_less : length old.state.entries ≤ length new.state.entries
  no_less = omega (arith, is_end.grow flies.mid.state, ap length mid_entries, ap length entries_new)

  -- the flight is gone
  pub is_own : IsOwn new
  is_own = record {
    is_core = core;
    landed = ap (λ (s : CoreState). s.flights) flies.ended.state
        ∙ (is_end.flights flies.mid.state ∙ ap (without own_seat) mid_flights);
    own = subst (All (λ turn. seat_of turn ≡ own_seat)) (sym longer)
        (All-push (λ turn. seat_of turn ≡ own_seat) (log_of old ++ start_turn ∷ []) end
        (All-push (λ turn. seat_of turn ≡ own_seat) (log_of old) start_turn own.own refl) is_end.seat);
  }

  -- the terms of the seat stay
  terms_stay : {D : Type 0} (writes : List Wrote) (was is : PlainJournal D) → Notes writes was is
      → (seat_of_both new is).terms ≡ (seat_of_both old was).terms
  terms_stay writes was is notes =
      ap (λ (es : List Entry). record { number = own_seat; opening = es; off = is.off }) opening_stays
      ∙ ap (λ (b : Bool). record { number = own_seat; opening = old.opening; off = b }) (off_stays writes was is notes)

  -- the seat gained these two turns, and the writes that the journal noted
  pub gains : {D : Type 0} (writes : List Wrote) (was is : PlainJournal D) → All (λ w. writer_of w ≡ own_seat) writes
      → Notes writes was is
      → Gains (begun own_seat key (length old.state.entries) ∷ end ∷ []) writes (seat_of_both old was)
      (seat_of_both new is)
  gains writes was is of_seat notes = record {
    grows = record {
      terms = terms_stay writes was is notes;
      turns = start_turn ∷ end ∷ [];
      log = longer ∙ append_assoc (log_of old) (start_turn ∷ []) (end ∷ []);
      writes = writes;
      wrotes = notes.wrotes;
      no_less = no_less;
    };
    own_turns = ap (turns_of own_seat) longer
        ∙ (filter-append (λ t. seat_of t == own_seat) (log_of old ++ start_turn ∷ []) (end ∷ [])
        ∙ (ap (λ (ts : List Turn). turns_of own_seat (log_of old ++ start_turn ∷ []) ++ ts) is_end.mine
        ∙ (ap (λ (ts : List Turn). ts ++ end ∷ [])
        (filter-append (λ t. seat_of t == own_seat) (log_of old) (start_turn ∷ []))
        ∙ append_assoc (turns_of own_seat (log_of old)) (start_turn ∷ []) (end ∷ []))));
    own_writes = ap (wrotes_of own_seat) notes.wrotes
        ∙ (filter-append (λ w. writer_of w == own_seat) was.wrotes writes
        ∙ ap (λ (ws : List Wrote). wrotes_of own_seat was.wrotes ++ ws) (own_writes writes of_seat));
  }
