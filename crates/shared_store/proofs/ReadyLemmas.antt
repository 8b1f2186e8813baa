-- Replies that an ask of a ready seat may have: by an entry, by one of its own flight, by an open tree.
use Rattle.std.proofs.Common.{◌≡◌, ◌↔◌, ◌∙◌, ℕ, ◌+◌, ◌<◌, ◌≤◌, ◌==◌, Bool, true, false, Some}
use Rattle.std.proofs.Common.{List, [], ◌∷◌, length, arith, refl, sym, ap, subst}
use Rattle.std.specs.List.{All, slice_get}
use Rattle.std.proofs.lemmas.Bool.{cond-true, eq-eqb}
use Rattle.std.proofs.lemmas.List.{append-nil, length_push, take_all}
use Rattle.std.proofs.lemmas.List.Elements.{All-push}
use Rattle.lin_model.specs.KeyAtom.{PlainKeyAtom}
use Rattle.lin_model.specs.Lists.{All-at, Found-from}
use Rattle.refutation.specs.SearchTree.{IsOpenTree}
use Rattle.refutation.specs.Tree.{PlainTree}
use Rattle.cert_check.specs.declared.entry.Entry.{Entry}
use Rattle.cert_check.specs.declared.flight.Flight.{Flight}
use Rattle.cert_check.specs.declared.reply.Reply.TheVariants.{Hit, Solved, Unkept, Spent}
use Rattle.cert_check.specs.declared.saved.Saved.{Saved}
use Rattle.cert_check.specs.declared.saved.Saved.TheVariants.{Fault as SavedFault, Off}
use Rattle.cert_check.specs.declared.wrote.Wrote.{Wrote}
use Rattle.cert_check.specs.declared.wrote.Wrote.TheVariants.{Fault}
use Rattle.cert_check.specs.Asks.{IsReady}
use Rattle.cert_check.specs.Calls.{MakesCall, writes_by}
use Rattle.cert_check.specs.Decides.{Decides, IsChecked, NoneDecides, IsFirstDeciding}
use Rattle.cert_check.specs.Machine.{Turn, kept, unkept, spent, max_entries}
use Rattle.cert_check.specs.Seats.{SeatState, IsSound, entries_of, turns_of, wrotes_of}
use Rattle.shared_store.specs.Laws.{CanBeSolved}
use Rattle.shared_store.specs.Solving.{IsEntryFor}
use Rattle.shared_store.proofs.EntriesLemmas.{none_in_front, there_at_end}
use Rattle.shared_store.proofs.FlyingLemmas.{IsEnd, Flies, first_flies, first_gone, fly}

-- ---- what becomes of an entry

-- nothing is saved where the journal is off, and else the disk fails
abbrev saved_by : Bool → Saved
saved_by true = Off
saved_by false = SavedFault

-- that says rightly whether it was saved at all
saved_rightly : (off : Bool) → (saved_by off ≡ Off) ↔ (off ≡ true)
saved_rightly true = (λ e. refl, λ e. refl)
saved_rightly false = (λ e. absurd (cc), λ e. absurd (cc))

-- what is written of it is a write of the seat
own_writes : (seat : ℕ) (entry : Entry) (off : Bool)
    → wrotes_of seat (writes_by seat entry (saved_by off)) ≡ writes_by seat entry (saved_by off)
own_writes seat entry true = refl
own_writes seat entry false = cond-true (seat == seat) (Fault seat ∷ []) [] (eq-eqb seat seat refl)

-- ---- a ready seat

module _ (budget : ℕ) (key : List PlainKeyAtom) (seat : SeatState) (ready : IsReady seat) where
  -- an entry that it may see decides the key
  pub by_hit : (place : ℕ) → IsFirstDeciding (entries_of seat) key (Some place) → CanBeSolved budget key seat
  by_hit place first =
      let n : ℕ = length (entries_of seat) in
      let later : SeatState =
      record { terms = seat.terms; log = seat.log; seen = length (entries_of seat); wrotes = seat.wrotes } in
      let hit = Found-from (slice_get (entries_of seat) place) (λ e. Decides e key) first.here in
      let is_sound : IsSound later = record {
        legal = ready.sound.legal;
        within = omega arith;
        idle = ready.sound.idle;
      } in
      let is_checked : IsChecked hit.value = All-at IsChecked (entries_of seat) place hit.value ready.checked hit.is in
      record {
        reply = Hit hit.value place n;
        later = later;
        asks = record {
          began = n;
          call = record {
            looked = ready.sound.within;
            gains = record {
              grows = record {
                terms = refl;
                turns = [];
                log = sym (append-nil seat.log);
                writes = [];
                wrotes = sym (append-nil seat.wrotes);
                no_less = ready.sound.within;
              };
              own_turns = sym (append-nil (turns_of seat.terms.number seat.log));
              own_writes = sym (append-nil (wrotes_of seat.terms.number seat.wrotes));
            };
            sound = is_sound;
            from = ready.sound.within;
            to = omega arith;
          };
          start = tt;
          stands = record {
            seen = record {
              within = omega arith;
              first = subst (λ (es : List Entry). IsFirstDeciding es key (Some place))
                  (sym (take_all n (entries_of seat) (omega arith))) first;
            };
            there = hit.is;
            checked = is_checked;
          };
          saves = tt;
        };
        ready = record { sound = is_sound; checked = ready.checked; few = ready.few };
        searched = tt;
      }

  -- its own flight
  abbrev flight : Flight
  flight = record { seat = seat.terms.number; key = key }

  -- the call that took it
  call_of : (end : Turn) (writes : List Wrote) (n : ℕ) → (flies : Flies seat key end writes)
      → length (entries_of seat) ≤ n → n ≤ flies.later.seen
      → MakesCall key (length (entries_of seat)) (Some end) writes n seat flies.later
  call_of end writes n flies from to = record {
    looked = ready.sound.within;
    gains = flies.gains;
    sound = flies.sound;
    from = omega (arith, ready.sound.within);
    to = to;
  }

  -- where it leaves the entries as they were, the seat is as ready as before
  still_ready : (end : Turn) (writes : List Wrote) → (flies : Flies seat key end writes)
      → entries_of flies.later ≡ entries_of seat → IsReady flies.later
  still_ready end writes flies same = record {
    sound = flies.sound;
    checked = subst (All IsChecked) (sym same) ready.checked;
    few = omega (arith, ap length same, ready.few);
  }

  -- where no entry decides the key
  module _ (none : NoneDecides (entries_of seat) key) where
    -- an entry that decides it is kept where there is room
    pub by_keeping : (entry : Entry) → IsEntryFor budget key entry → length (entries_of seat) < max_entries
        → CanBeSolved budget key seat
    by_keeping entry for_key room =
        let n : ℕ = length (entries_of seat) in
        let saved : Saved = saved_by seat.terms.off in
        let end : Turn = kept seat.terms.number n entry in
        let writes : List Wrote = writes_by seat.terms.number entry saved in
        let is_end : IsEnd seat key end = record {
          own = refl;
          may = record {
            key = key;
            flying = (0, flight, omega arith, refl, refl);
            decides = for_key.decides;
            room = room;
            at_end = refl;
          };
          lands = first_gone flight [];
          no_fewer = omega (arith, length_push (entries_of seat) entry);
        } in
        let flies : Flies seat key end writes =
        fly seat key end writes ready.sound none is_end (own_writes seat.terms.number entry seat.terms.off) in
        let long = ap length flies.entries ∙ length_push (entries_of seat) entry in
        let seen = flies.seen ∙ length_push (entries_of seat) entry in
        record {
          reply = Solved entry n (n + 1) saved;
          later = flies.later;
          asks = record {
            began = n;
            call = call_of end writes (n + 1) flies (omega arith) (omega (arith, seen));
            start = tt;
            stands = record {
              is_kept = record {
                seen = n;
                flown = flies.flown;
                undecided = none_in_front key (entries_of seat) (entry ∷ []) (entries_of flies.later) none
                    flies.entries;
                there = subst (λ (es : List Entry). slice_get es n ≡ Some entry) (sym flies.entries)
                    (there_at_end (entries_of seat) entry);
                later = omega arith;
                counted = omega arith;
                within = omega (arith, long);
              };
              decides = for_key.decides;
              checked = for_key.checked;
            };
            saves = saved_rightly seat.terms.off;
          };
          ready = record {
            sound = flies.sound;
            checked = subst (All IsChecked) (sym flies.entries)
                (All-push IsChecked (entries_of seat) entry ready.checked for_key.checked);
            few = omega (arith, long, room);
          };
          searched = for_key.found;
        }

    -- and turned away where there is none
    pub without_room : (entry : Entry) → IsEntryFor budget key entry → length (entries_of seat) ≡ max_entries
        → CanBeSolved budget key seat
    without_room entry for_key full =
        let n : ℕ = length (entries_of seat) in
        let saved : Saved = saved_by seat.terms.off in
        let end : Turn = unkept seat.terms.number in
        let writes : List Wrote = writes_by seat.terms.number entry saved in
        let is_end : IsEnd seat key end = record {
          own = refl;
          may = record { flying = first_flies flight []; full = full };
          lands = first_gone flight [];
          no_fewer = omega arith;
        } in
        let flies : Flies seat key end writes =
        fly seat key end writes ready.sound none is_end (own_writes seat.terms.number entry seat.terms.off) in
        record {
          reply = Unkept entry n saved;
          later = flies.later;
          asks = record {
            began = n;
            call = call_of end writes n flies (omega arith) (omega (arith, flies.seen));
            start = tt;
            stands = record {
              turned_away = record {
                seen = n;
                flown = flies.flown;
                undecided = none_in_front key (entries_of seat) [] (entries_of flies.later) none
                    (flies.entries ∙ sym (append-nil (entries_of seat)));
                later = omega arith;
                all = full;
                full = ap length flies.entries ∙ full;
              };
              decides = for_key.decides;
              checked = for_key.checked;
            };
            saves = saved_rightly seat.terms.off;
          };
          ready = still_ready end writes flies flies.entries;
          searched = for_key.found;
        }

    -- a search may spend the whole budget
    pub by_spending : (tree : PlainTree) → IsOpenTree key budget tree.nodes tree.terms → CanBeSolved budget key seat
    by_spending tree is_open =
        let n : ℕ = length (entries_of seat) in
        let end : Turn = spent seat.terms.number in
        let is_end : IsEnd seat key end = record {
          own = refl;
          may = first_flies flight [];
          lands = first_gone flight [];
          no_fewer = omega arith;
        } in
        let flies : Flies seat key end [] = fly seat key end [] ready.sound none is_end refl in
        record {
          reply = Spent tree n;
          later = flies.later;
          asks = record {
            began = n;
            call = call_of end [] n flies (omega arith) (omega (arith, flies.seen));
            start = refl;
            stands = record {
              flown = flies.flown;
              within = omega (arith, ap length flies.entries);
              undecided = none_in_front key (entries_of seat) [] (entries_of flies.later) none
                  (flies.entries ∙ sym (append-nil (entries_of seat)));
              open_tree = is_open;
            };
            saves = tt;
          };
          ready = still_ready end [] flies flies.entries;
          searched = tt;
        }
