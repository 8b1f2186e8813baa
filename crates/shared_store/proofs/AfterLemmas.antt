-- What a flight on a key that no entry decides comes to, whatever the result.
use Rattle.std.proofs.Common.{inl, inr, ℕ, List, [], length, arith, refl, sym, subst}
use Rattle.std.specs.Prelude.{Result, Ok, Err, IfOk, OnErr}
use Rattle.outside.specs.declared.errors.NoMemory.{NoMemory}
use Rattle.lin_model.specs.KeyAtom.{PlainKeyAtom}
use Rattle.cert_check.specs.declared.reply.Reply.{Reply}
use Rattle.cert_check.specs.declared.reply.Reply.TheVariants.{Hit, Solved, Unkept, Spent}
use Rattle.cert_check.specs.declared.wrote.Wrote.{Wrote}
use Rattle.cert_check.specs.Asks.{Asks}
use Rattle.cert_check.specs.Calls.{FailsInVain, writes_by}
use Rattle.cert_check.specs.Decides.{NoneDecides}
use Rattle.cert_check.specs.Facts.{nothing_gained}
use Rattle.cert_check.specs.Machine.{Turn, kept, unkept, spent, failed}
use Rattle.journal.specs.Journals.{PlainJournal}
use Rattle.store_core.specs.Cores.{PlainCore}
use Rattle.store_core.specs.Laws.{CoresTakeTurns}
use Rattle.shared_store.specs.declared.books.Books.{Books}
use Rattle.shared_store.specs.Flights.{EndsInVain, FliesInVain, IsSearchedWithin, RepliesByFlight, own_seat}
use Rattle.shared_store.specs.Local.{IsOwn, seat_of_both}
use Rattle.shared_store.proofs.AskLemmas.{asks_by_flight, by_keeping, by_spending, searched_by_flight, without_room}
use Rattle.shared_store.proofs.FlownLemmas.{Flown, IsAtRest, RestsAgain, call_of, core_now, rests, seat}
use Rattle.shared_store.proofs.OwnLemmas as own_lemmas
use Rattle.shared_store.proofs.OwnLemmas.{own_is_sound, failed_is_end}

-- the store is at rest again
rests_by_flight : {D : Type 0} → CoresTakeTurns → (budget : ℕ) (key : List PlainKeyAtom) (reply : Reply)
    (old new : Books D) → IsAtRest old → RepliesByFlight budget key old new reply → RestsAgain old new
rests_by_flight law budget key (Hit entry place n) old new at_rest replies = absurd replies
rests_by_flight law budget key (Solved entry place n saved) old new at_rest replies =
    rests law key (kept own_seat place entry) (writes_by own_seat entry saved) old new at_rest.own
    (by_keeping budget key entry place n saved old new replies) at_rest.journal
rests_by_flight law budget key (Unkept entry n saved) old new at_rest replies =
    rests law key (unkept own_seat) (writes_by own_seat entry saved) old new at_rest.own
    (without_room budget key entry n saved old new replies) at_rest.journal
rests_by_flight law budget key (Spent tree n) old new at_rest replies =
    rests law key (spent own_seat) [] old new at_rest.own (by_spending budget key tree n old new replies)
    at_rest.journal

-- the flight that failed
failed_flight : {D : Type 0} (key : List PlainKeyAtom) (old new : Books D) (in_vain : FliesInVain key old new)
    → Flown key (failed own_seat) in_vain.notes.writes old new
failed_flight key old new in_vain = record {
  is_end = failed_is_end;
  flies = in_vain.flies;
  own = in_vain.notes.own;
  notes = in_vain.notes.notes;
}

-- nothing happened to a store at rest
rests_on : {D : Type 0} (books : Books D) → IsAtRest books → RestsAgain books books
rests_on books at_rest = record { own = at_rest.own; journal = at_rest.journal; origin = refl }

-- and so is one whose memory ran out
rests_in_vain : {D : Type 0} → CoresTakeTurns → (key : List PlainKeyAtom) (old new : Books D) → IsAtRest old
    → EndsInVain key old new → RestsAgain old new
rests_in_vain {D} law key old new at_rest (inl same) =
    subst (λ (b : Books D). RestsAgain old b) (sym same) (rests_on old at_rest)
rests_in_vain law key old new at_rest (inr in_vain) =
    rests law key (failed own_seat) in_vain.notes.writes old new at_rest.own (failed_flight key old new in_vain)
    at_rest.journal

-- ---- want of memory

-- before a flight began
pub fails_at_once : {D : Type 0} (key : List PlainKeyAtom) (core : PlainCore) (journal : PlainJournal D) → IsOwn core
    → FailsInVain key (seat_of_both core journal) (seat_of_both core journal)
fails_at_once key core journal own =
    record { how = inl (nothing_gained (seat_of_both core journal)); sound = own_is_sound core journal own }

-- what holds at each error
pub on_err : {X E : Type 0} (r : Result X E) (P : Type 0) → P → OnErr r P
on_err (Ok x) P p = tt
on_err (Err e) P p = p

-- before one, or in one
fails_in_vain : {D : Type 0} → CoresTakeTurns → (key : List PlainKeyAtom) (old new : Books D) → IsOwn old.core
    → EndsInVain key old new → FailsInVain key (seat old) (seat new)
fails_in_vain {D} law key old new own (inl same) =
    subst (λ (b : Books D). FailsInVain key (seat old) (seat b)) (sym same)
    (fails_at_once key old.core old.journal own)
fails_in_vain law key old new own (inr in_vain) =
    let end : Turn = failed own_seat in
    let writes : List Wrote = in_vain.notes.writes in
    let flown : Flown key end writes old new = failed_flight key old new in_vain in
    let longer = own_lemmas.no_less key end old.core new.core flown.is_end own
    (core_now law key end writes old new own flown) flown.flies in
    let call = call_of law key end writes old new own flown (length new.core.state.entries) longer (omega arith) in
    record {
      how = inr (record {
        began = length old.core.state.entries;
        writes = writes;
        saves = in_vain.notes.few;
        gains = call.gains;
      });
      sound = call.sound;
    }

-- all of it, whatever the result
pub record AfterFlight {D : Type 0} (budget : ℕ) (key : List PlainKeyAtom) (old new : Books D)
    (result : Result Reply NoMemory) : Type 0 where
  pub asks : IfOk result (λ reply. Asks budget key reply (seat old) (seat new))
  pub searched : IfOk result (IsSearchedWithin budget key)
  pub in_vain : OnErr result (FailsInVain key (seat old) (seat new))
  pub rests : RestsAgain old new

pub after_flight : {D : Type 0} → CoresTakeTurns → (budget : ℕ) (key : List PlainKeyAtom) (old new : Books D)
    (result : Result Reply NoMemory) → IsAtRest old → NoneDecides old.core.state.entries key
    → IfOk result (RepliesByFlight budget key old new) → OnErr result (EndsInVain key old new)
    → AfterFlight budget key old new result
after_flight law budget key old new (Ok reply) at_rest none replies in_vain = record {
  asks = asks_by_flight law budget key reply old new at_rest.own none replies;
  searched = searched_by_flight budget key reply old new replies;
  in_vain = tt;
  rests = rests_by_flight law budget key reply old new at_rest replies;
}
after_flight law budget key old new (Err error) at_rest none replies in_vain = record {
  asks = tt;
  searched = tt;
  in_vain = fails_in_vain law key old new at_rest.own in_vain;
  rests = rests_in_vain law key old new at_rest in_vain;
}
