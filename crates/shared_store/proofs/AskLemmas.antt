-- One key asked: the reply is what an ask promises.
use Rattle.std.proofs.Common.{◌≡◌, ◌∙◌, ℕ, ◌+◌, Some, List, [], ◌∷◌, ◌++◌, length, take, arith, sym, ap}
use Rattle.std.proofs.Common.{subst}
use Rattle.std.specs.List.{slice_get}
use Rattle.std.proofs.Math.Seq.{take-length}
use Rattle.std.proofs.lemmas.List.{length_push}
use Rattle.std.proofs.lemmas.List.Elements.{All-nil}
use Rattle.lin_model.specs.KeyAtom.{PlainKeyAtom}
use Rattle.refutation.specs.Tree.{PlainTree}
use Rattle.cert_check.specs.declared.entry.Entry.{Entry}
use Rattle.cert_check.specs.declared.reply.Reply.{Reply}
use Rattle.cert_check.specs.declared.reply.Reply.TheVariants.{Hit, Solved, Unkept, Spent}
use Rattle.cert_check.specs.declared.saved.Saved.{Saved}
use Rattle.cert_check.specs.declared.wrote.Wrote.{Wrote}
use Rattle.cert_check.specs.Asks.{Asks}
use Rattle.cert_check.specs.Calls.{writes_by}
use Rattle.cert_check.specs.Decides.{NoneDecides}
use Rattle.cert_check.specs.Facts.{nothing_gained}
use Rattle.cert_check.specs.Machine.{Turn, kept, unkept, spent}
use Rattle.cert_check.specs.Replies.{HasFlown, IsHit}
use Rattle.cert_check.specs.Seats.{entries_of, writer_of}
use Rattle.journal.specs.Journals.{PlainJournal}
use Rattle.store_core.specs.Cores.{PlainCore, log_of}
use Rattle.store_core.specs.Laws.{CoresTakeTurns}
use Rattle.shared_store.specs.declared.books.Books.{Books}
use Rattle.shared_store.specs.Flights.{IsSearchedWithin, Keeps, KeepsNot, RepliesByFlight, RepliesByHit, Spends}
use Rattle.shared_store.specs.Flights.{own_seat}
use Rattle.shared_store.specs.Local.{IsOwn, seat_of_both}
use Rattle.shared_store.proofs.EntriesLemmas.{none_in_front, there_at_end}
use Rattle.shared_store.proofs.FlownLemmas.{Flown, call_of, core_now, has_flown, mid_entries, seat, seen}
use Rattle.shared_store.proofs.OwnLemmas as own_lemmas
use Rattle.shared_store.proofs.OwnLemmas.{entries_seen, own_is_sound, kept_is_end, unkept_is_end, spent_is_end}
use Rattle.shared_store.proofs.WritesLemmas.{nothing_noted, writes_are_own}

-- a hit changes nothing
pub asks_by_hit : {D : Type 0} (budget : ℕ) (key : List PlainKeyAtom) (core : PlainCore) (journal : PlainJournal D)
    (reply : Reply) → IsOwn core → RepliesByHit key core reply
    → Asks budget key reply (seat_of_both core journal) (seat_of_both core journal)
asks_by_hit budget key core journal (Hit entry place n) own hit = record {
  began = length core.state.entries;
  call = record {
    looked = omega arith;
    gains = nothing_gained (seat_of_both core journal);
    sound = own_is_sound core journal own;
    from = omega (arith, hit.1);
    to = omega (arith, hit.1);
  };
  start = tt;
  stands = subst (λ (es : List Entry). IsHit es key entry place n) (sym (entries_seen core journal own.is_core)) hit.0;
  saves = tt;
}
asks_by_hit budget key core journal (Solved entry place n saved) own hit = absurd hit
asks_by_hit budget key core journal (Unkept entry n saved) own hit = absurd hit
asks_by_hit budget key core journal (Spent tree n) own hit = absurd hit

-- ---- replies that came of a flight

-- the flight of an entry that was kept
pub by_keeping : {D : Type 0} (budget : ℕ) (key : List PlainKeyAtom) (entry : Entry) (place n : ℕ) (saved : Saved)
    (old new : Books D) → Keeps budget key entry place n saved old new
    → Flown key (kept own_seat place entry) (writes_by own_seat entry saved) old new
by_keeping budget key entry place n saved old new keeps = record {
  is_end = kept_is_end place entry;
  flies = keeps.flies;
  own = writes_are_own entry saved;
  notes = keeps.saves.notes;
}

-- the flight of one without room
pub without_room : {D : Type 0} (budget : ℕ) (key : List PlainKeyAtom) (entry : Entry) (n : ℕ) (saved : Saved)
    (old new : Books D) → KeepsNot budget key entry n saved old new
    → Flown key (unkept own_seat) (writes_by own_seat entry saved) old new
without_room budget key entry n saved old new keeps = record {
  is_end = unkept_is_end;
  flies = keeps.flies;
  own = writes_are_own entry saved;
  notes = keeps.saves.notes;
}

-- the flight that spent the whole budget
pub by_spending : {D : Type 0} (budget : ℕ) (key : List PlainKeyAtom) (tree : PlainTree) (n : ℕ) (old new : Books D)
    → Spends budget key tree n old new → Flown key (spent own_seat) [] old new
by_spending budget key tree n old new spends = record {
  is_end = spent_is_end;
  flies = spends.flies;
  own = All-nil (λ (w : Wrote). writer_of w ≡ own_seat);
  notes = nothing_noted old.journal new.journal spends.untouched;
}

-- the key was solved, and its entry was kept
asks_by_keeping : {D : Type 0} → CoresTakeTurns → (budget : ℕ) (key : List PlainKeyAtom) (entry : Entry) (place n : ℕ)
    (saved : Saved) (old new : Books D) → IsOwn old.core → NoneDecides old.core.state.entries key
    → Keeps budget key entry place n saved old new
    → Asks budget key (Solved entry place n saved) (seat old) (seat new)
asks_by_keeping law budget key entry place n saved old new own none keeps =
    let end : Turn = kept own_seat place entry in
    let writes : List Wrote = writes_by own_seat entry saved in
    let flown : Flown key end writes old new = by_keeping budget key entry place n saved old new keeps in
    let added : new.core.state.entries ≡ old.core.state.entries ++ entry ∷ [] =
    own_lemmas.entries_new key end old.core new.core flown.is_end own (core_now law key end writes old new own flown)
    flown.flies
    ∙ ap (λ (es : List Entry). es ++ entry ∷ []) (mid_entries law key end writes old new own flown) in
    let seen_now : entries_of (seat new) ≡ old.core.state.entries ++ entry ∷ [] =
    seen law key end writes old new own flown ∙ added in
    let long : length new.core.state.entries ≡ length old.core.state.entries + 1 =
    ap length added ∙ length_push old.core.state.entries entry in
    record {
      began = length old.core.state.entries;
      call = call_of law key end writes old new own flown n (omega (arith, keeps.at_end, keeps.seen))
          (omega (arith, keeps.at_end, keeps.seen, long));
      start = tt;
      stands = record {
        is_kept = record {
          seen = length old.core.state.entries;
          flown = has_flown law key end writes old new own flown;
          undecided = none_in_front key old.core.state.entries (entry ∷ []) (entries_of (seat new)) none seen_now;
          there = subst (λ (i : ℕ). slice_get (entries_of (seat new)) i ≡ Some entry) (sym keeps.at_end)
              (ap (λ (es : List Entry). slice_get es (length old.core.state.entries)) seen_now
              ∙ there_at_end old.core.state.entries entry);
          later = omega (arith, keeps.at_end);
          counted = omega (arith, keeps.seen);
          within = omega (
            arith,
            keeps.at_end,
            keeps.seen,
            ap length seen_now,
            length_push old.core.state.entries entry,
          );
        };
        decides = keeps.entry_for.decides;
        checked = keeps.entry_for.checked;
      };
      saves = keeps.saves.off;
    }

-- it was solved, and there was no room for its entry
asks_without_room : {D : Type 0} → CoresTakeTurns → (budget : ℕ) (key : List PlainKeyAtom) (entry : Entry) (n : ℕ)
    (saved : Saved) (old new : Books D) → IsOwn old.core → NoneDecides old.core.state.entries key
    → KeepsNot budget key entry n saved old new
    → Asks budget key (Unkept entry n saved) (seat old) (seat new)
asks_without_room law budget key entry n saved old new own none keeps =
    let end : Turn = unkept own_seat in
    let writes : List Wrote = writes_by own_seat entry saved in
    let flown : Flown key end writes old new = without_room budget key entry n saved old new keeps in
    let mid = mid_entries law key end writes old new own flown in
    let same : new.core.state.entries ≡ old.core.state.entries =
    own_lemmas.entries_new key end old.core new.core flown.is_end own (core_now law key end writes old new own flown)
    flown.flies
    ∙ mid in
    let seen_now : entries_of (seat new) ≡ old.core.state.entries = seen law key end writes old new own flown ∙ same in
    let full = flown.flies.ended.possible.full in
    record {
      began = length old.core.state.entries;
      call = call_of law key end writes old new own flown n (omega (arith, keeps.seen))
          (omega (arith, keeps.seen, ap length same));
      start = tt;
      stands = record {
        turned_away = record {
          seen = length old.core.state.entries;
          flown = has_flown law key end writes old new own flown;
          undecided = subst (λ (es : List Entry). NoneDecides (take (length old.core.state.entries) es) key)
              (sym seen_now)
              (subst (λ (es : List Entry). NoneDecides es key) (sym (take-length old.core.state.entries)) none);
          later = omega (arith, keeps.seen);
          all = keeps.seen ∙ (sym (ap length mid) ∙ full);
          full = ap length seen_now ∙ (sym (ap length mid) ∙ full);
        };
        decides = keeps.entry_for.decides;
        checked = keeps.entry_for.checked;
      };
      saves = keeps.saves.off;
    }

-- the whole budget was spent
asks_spent : {D : Type 0} → CoresTakeTurns → (budget : ℕ) (key : List PlainKeyAtom) (tree : PlainTree) (n : ℕ)
    (old new : Books D) → IsOwn old.core → NoneDecides old.core.state.entries key
    → Spends budget key tree n old new → Asks budget key (Spent tree n) (seat old) (seat new)
asks_spent law budget key tree n old new own none spends =
    let end : Turn = spent own_seat in
    let flown : Flown key end [] old new = by_spending budget key tree n old new spends in
    let same : new.core.state.entries ≡ old.core.state.entries =
    own_lemmas.entries_new key end old.core new.core flown.is_end own (core_now law key end [] old new own flown)
    flown.flies
    ∙ mid_entries law key end [] old new own flown in
    let seen_now : entries_of (seat new) ≡ old.core.state.entries = seen law key end [] old new own flown ∙ same in
    record {
      began = length old.core.state.entries;
      call = call_of law key end [] old new own flown n (omega (arith, spends.seen))
          (omega (arith, spends.seen, ap length same));
      start = sym spends.seen;
      stands = record {
        flown = subst (λ (m : ℕ). HasFlown (log_of new.core) own_seat key m (spent own_seat)) (sym spends.seen)
            (has_flown law key end [] old new own flown);
        within = omega (arith, spends.seen, ap length seen_now);
        undecided = subst (λ (m : ℕ). NoneDecides (take m (entries_of (seat new))) key) (sym spends.seen)
            (subst (λ (es : List Entry). NoneDecides (take (length old.core.state.entries) es) key) (sym seen_now)
            (subst (λ (es : List Entry). NoneDecides es key) (sym (take-length old.core.state.entries)) none));
        open_tree = spends.open_tree;
      };
      saves = tt;
    }

-- the reply that came of it
pub asks_by_flight : {D : Type 0} → CoresTakeTurns → (budget : ℕ) (key : List PlainKeyAtom) (reply : Reply)
    (old new : Books D) → IsOwn old.core → NoneDecides old.core.state.entries key
    → RepliesByFlight budget key old new reply → Asks budget key reply (seat old) (seat new)
asks_by_flight law budget key (Hit entry place n) old new own none replies = absurd replies
asks_by_flight law budget key (Solved entry place n saved) old new own none replies =
    asks_by_keeping law budget key entry place n saved old new own none replies
asks_by_flight law budget key (Unkept entry n saved) old new own none replies =
    asks_without_room law budget key entry n saved old new own none replies
asks_by_flight law budget key (Spent tree n) old new own none replies =
    asks_spent law budget key tree n old new own none replies

-- the search kept to the budget
pub searched_by_flight : {D : Type 0} (budget : ℕ) (key : List PlainKeyAtom) (reply : Reply) (old new : Books D)
    → RepliesByFlight budget key old new reply → IsSearchedWithin budget key reply
searched_by_flight budget key (Hit entry place n) old new replies = tt
searched_by_flight budget key (Solved entry place n saved) old new replies = replies.entry_for.found
searched_by_flight budget key (Unkept entry n saved) old new replies = replies.entry_for.found
searched_by_flight budget key (Spent tree n) old new replies = tt

pub searched_by_hit : (budget : ℕ) (key : List PlainKeyAtom) (core : PlainCore) (reply : Reply)
    → RepliesByHit key core reply → IsSearchedWithin budget key reply
searched_by_hit budget key core (Hit entry place n) replies = tt
searched_by_hit budget key core (Solved entry place n saved) replies = absurd replies
searched_by_hit budget key core (Unkept entry n saved) replies = absurd replies
searched_by_hit budget key core (Spent tree n) replies = tt
