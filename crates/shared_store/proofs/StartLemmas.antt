-- A store that starts with the list of a journal.
use Rattle.std.proofs.Common.{◌≡◌, ◌∙◌, ℕ, ◌^◌, ◌≤◌, Bool, true, false, List, [], ◌++◌, length, arith, refl, sym, ap, rules}
use Rattle.std.proofs.lemmas.List.{append-nil}
use Rattle.std.proofs.lemmas.List.Elements.{All-nil}
use Rattle.cert_check.specs.declared.entry.Entry.{Entry}
use Rattle.cert_check.specs.declared.wrote.Wrote.{Wrote}
use Rattle.cert_check.specs.Machine.{Turn, seat_of}
use Rattle.cert_check.specs.Seats.{writer_of}
use Rattle.outside.specs.States.{DiskState}
use Rattle.journal.specs.Journals.{KeepsJournal, PlainJournal, list_of, saved_in}
use Rattle.store_core.specs.Cores.{IsCore, started}
use Rattle.shared_store.specs.Flights.{own_seat}
use Rattle.shared_store.specs.Local.{IsStore}

-- a journal that has written nothing has saved nothing
nothing_saved : saved_in [] ≡ []
unfolding saved_in
nothing_saved = refl

-- its list is what it was opened with
pub opening_is_list : {D : Type 0} (journal : PlainJournal D) → journal.wrotes ≡ [] → list_of journal ≡ journal.opening
opening_is_list journal none =
    ap (λ (ws : List Wrote). journal.opening ++ saved_in ws) none
    ∙ (ap (λ (es : List Entry). journal.opening ++ es) nothing_saved ∙ append-nil journal.opening)

-- a list has at most 2^20 entries, of a journal that is off and of one that isn't
few_by : {D : Type 0} (state : D → DiskState) (journal : PlainJournal D) (off : Bool) → journal.off ≡ off
    → KeepsJournal state journal → length (list_of journal) ≤ 2 ^ 20
few_by state journal true is keeps =
    let off = keeps.how.0 is in
    omega (arith, ap length (opening_is_list journal off.nothing ∙ off.empty))
few_by state journal false is keeps = (keeps.how.1 is).storable.few

pub list_is_few : {D : Type 0} (state : D → DiskState) (journal : PlainJournal D) → KeepsJournal state journal
    → length (list_of journal) ≤ 2 ^ 20
list_is_few state journal keeps = few_by state journal journal.off refl keeps

-- a core before any event
started_core : (entries : List Entry) → length entries ≤ 2 ^ 20 → IsCore (started entries)
started_core entries few = record {
  told = record { tells = refl; places = All-nil _ };
  legal = record { possible = tt; leads = refl };
  leads = refl;
  apart = search rules;
  few = few;
}

-- the store of the list, before any call
pub store_starts : {D : Type 0} (entries : List Entry) (journal : PlainJournal D) (budget : ℕ)
    → entries ≡ list_of journal → journal.wrotes ≡ [] → length entries ≤ 2 ^ 20 → 1 ≤ budget → budget ≤ 100000
    → IsStore {D = D} (record { core = started entries; journal = journal; budget = budget })
store_starts entries journal budget same none few some most = record {
  own = record {
    is_core = started_core entries few;
    landed = refl;
    own = All-nil (λ (turn : Turn). seat_of turn ≡ own_seat);
  };
  journal = record {
    opening = sym (same ∙ opening_is_list journal none);
    own = rw none (All-nil (λ (w : Wrote). writer_of w ≡ own_seat));
  };
  some = some;
  few = most;
}
