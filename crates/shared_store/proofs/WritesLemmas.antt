-- What the journal noted for the one seat.
use Rattle.std.proofs.Common.{◌≡◌, ◌∙◌, ◌==◌, List, [], ◌∷◌, refl, sym, ap, subst}
use Rattle.std.specs.List.{All}
use Rattle.std.proofs.lemmas.Bool.{cond-true, eq-eqb}
use Rattle.std.proofs.lemmas.List.{append-nil}
use Rattle.std.proofs.lemmas.List.Elements.{All-append, All-cons, All-head, All-nil, All-tail}
use Rattle.cert_check.specs.declared.entry.Entry.{Entry}
use Rattle.cert_check.specs.declared.saved.Saved.{Saved}
use Rattle.cert_check.specs.declared.saved.Saved.TheVariants.{At as SavedAt, Fault as SavedFault, Full as SavedFull, Off}
use Rattle.cert_check.specs.declared.wrote.Wrote.{Wrote}
use Rattle.cert_check.specs.declared.wrote.Wrote.TheVariants.{At, Fault, Full}
use Rattle.cert_check.specs.Calls.{writes_by}
use Rattle.cert_check.specs.Seats.{writer_of, wrotes_of}
use Rattle.journal.specs.Journals.{JournalOrigin, PlainJournal, origin_of}
use Rattle.store_core.specs.Cores.{PlainCore}
use Rattle.shared_store.specs.Flights.{Notes, own_seat}
use Rattle.shared_store.specs.Local.{IsJournalOf}

-- writes of the seat alone are all its own
pub own_writes : (writes : List Wrote) → All (λ w. writer_of w ≡ own_seat) writes → wrotes_of own_seat writes ≡ writes
own_writes [] own = refl
own_writes (w ∷ writes) own =
    cond-true (writer_of w == own_seat) (w ∷ wrotes_of own_seat writes) (wrotes_of own_seat writes)
    (eq-eqb (writer_of w) own_seat (All-head (λ v. writer_of v ≡ own_seat) w writes own))
    ∙ ap (λ (ws : List Wrote). w ∷ ws) (own_writes writes (All-tail (λ v. writer_of v ≡ own_seat) w writes own))

-- one write of the seat
one_write : (w : Wrote) → writer_of w ≡ own_seat → All (λ v. writer_of v ≡ own_seat) (w ∷ [])
one_write w is = All-cons (λ v. writer_of v ≡ own_seat) w [] is (All-nil (λ v. writer_of v ≡ own_seat))

-- what was written of an entry of the seat is its own
pub writes_are_own : (entry : Entry) (saved : Saved) → All (λ w. writer_of w ≡ own_seat) (writes_by own_seat entry saved)
writes_are_own entry (SavedAt at) = one_write (At own_seat at entry) refl
writes_are_own entry SavedFault = one_write (Fault own_seat) refl
writes_are_own entry SavedFull = one_write (Full own_seat entry) refl
writes_are_own entry Off = All-nil (λ (v : Wrote). writer_of v ≡ own_seat)

-- a journal that was left alone noted nothing
pub nothing_noted : {D : Type 0} (old new : PlainJournal D) → new ≡ old → Notes [] old new
nothing_noted {D} old new same = record {
  wrotes = ap (λ (j : PlainJournal D). j.wrotes) same ∙ sym (append-nil old.wrotes);
  origin = ap (λ (j : PlainJournal D). origin_of j) same;
}

-- the journal is off as before
pub off_stays : {D : Type 0} (writes : List Wrote) (old new : PlainJournal D) → Notes writes old new
    → new.off ≡ old.off
off_stays {D} writes old new notes = ap (λ (o : JournalOrigin D). o.off) notes.origin

-- it is the core's journal, as before
pub journal_after : {D : Type 0} (writes : List Wrote) (old new : PlainJournal D) (core later : PlainCore)
    → IsJournalOf core old → All (λ w. writer_of w ≡ own_seat) writes → Notes writes old new
    → later.opening ≡ core.opening → IsJournalOf later new
journal_after {D} writes old new core later is own notes same = record {
  opening = ap (λ (o : JournalOrigin D). o.opening) notes.origin ∙ (is.opening ∙ sym same);
  own = subst (All (λ w. writer_of w ≡ own_seat)) (sym notes.wrotes)
      (All-append (λ w. writer_of w ≡ own_seat) old.wrotes writes is.own own);
}
