-- A journal that was just opened.
use Rattle.std.proofs.Common.{◌≡◌, inl, inr, ℕ, false, List, [], length, Option, None, Some, refl, sym, ap, ◌∙◌, subst, arith}
use Rattle.std.proofs.Common.{append-nil}
use Rattle.std.specs.Option.{IfSome}
use Rattle.cert_check.specs.declared.entry.Entry.{Entry}
use Rattle.outside.specs.Crash.{IsConsistent}
use Rattle.outside.specs.States.{DiskState}
use Rattle.journal.specs.declared.limits.TheConstants.{HEADER}
use Rattle.journal.specs.declared.recovered.Recovered.{Recovered}
use Rattle.journal.specs.Files.{BeginsWith, GoesOnWith, HasJust, end_of}
use Rattle.journal.specs.Journals.{PlainJournal, HasNumbers, IsKept, IsWhole, KeepsJournal, list_of, saved_in, faults_in}
use Rattle.journal.specs.Opening.{FileBecomes, IsBegun, Opens}
use Rattle.journal.specs.Recovery.{IsInOrder, IsRecovered, StopsFor}
use Rattle.journal.proofs.AppendLemmas.{IsKept-by}
use Rattle.journal.proofs.ContentLemmas.{content_weaker}
use Rattle.journal.proofs.HeaderLemmas.{begun_journal, parts_header}
use Rattle.journal.proofs.SavingLemmas.{synced_has}
use Rattle.journal.proofs.WroteLemmas.{AreInPlace-none}

-- a journal with these entries, which has written nothing
abbrev pub opened_with : {D : Type 0} → D → List Entry → PlainJournal D
opened_with disk entries = record { disk = disk; made = disk; off = false; opening = entries; wrotes = [] }

-- ---- what its file has

-- the file has the entries, and just these where nothing stopped them
record HasEntries (found : Recovered) (file : List ℕ) : Type 0 where
  pub rest : List ℕ
  pub parts : GoesOnWith file found.entries.items rest
  pub just : found.stopped ≡ None → rest ≡ []

HasEntries-begun : (found : Recovered) (file now : List ℕ) → IsRecovered file found → IsBegun file now
    → HasEntries found now
HasEntries-begun found file now is begun = elim is.entries [
  | inl nothing ↦ elim begun [
    | inl fresh ↦ record {
      rest = [];
      parts = subst (λ (f : List ℕ). GoesOnWith f found.entries.items []) (sym fresh.1)
          (subst (λ (es : List Entry). GoesOnWith HEADER es []) (sym nothing.no_entry) parts_header);
      just = λ none. refl;
    }
    | inr other ↦ absurd (other.0 nothing.unbegun)
  ]
  | inr journal ↦ elim begun [
    | inl fresh ↦ absurd (begun_journal file found.entries.items is.rest journal.parts fresh.0)
    | inr other ↦ record {
      rest = is.rest;
      parts = subst (λ (f : List ℕ). GoesOnWith f found.entries.items is.rest) (sym other.1) journal.parts;
      just = λ none. subst (StopsFor found.entries.items is.rest) none is.stopped;
    }
  ]
]

has_entries : (found : Recovered) (old new : Option (List ℕ)) → IfSome old (λ file. IsRecovered file found)
    → FileBecomes IsBegun old new → IfSome new (HasEntries found)
has_entries found None new is becomes = subst (λ (content : Option (List ℕ)). IfSome content (HasEntries found)) (sym becomes) tt
has_entries found (Some file) new is becomes =
    subst (λ (content : Option (List ℕ)). IfSome content (HasEntries found)) (sym becomes.1)
    (HasEntries-begun found file becomes.0 is becomes.2)

-- ---- what the journal keeps

module _ {D : Type 0} (state : D → DiskState) (consistent : (disk : D) → IsConsistent (state disk)) (old : DiskState)
    (disk : D) (found : Recovered) (opens : Opens found old (state disk)) (in_order : IsInOrder found) where
  content_has : IfSome (state disk).content (HasEntries found)
  content_has = has_entries found old.content (state disk).content opens.recovered opens.begun

  begins : IfSome (state disk).content (λ file. BeginsWith file found.entries.items)
  begins = content_weaker (state disk).content (HasEntries found) (λ file. BeginsWith file found.entries.items) content_has
      (λ file has. (has.rest, has.parts))

  list-opened : list_of (opened_with disk found.entries.items) ≡ found.entries.items
  unfolding saved_in
  list-opened = append-nil found.entries.items

  kept_opened : IsKept state (opened_with disk found.entries.items)
  kept_opened =
      IsKept-by state (opened_with disk found.entries.items) found.entries.items list-opened in_order.storable begins
      (λ settled image left.
      synced_has (state disk).content (state disk).may_leave (λ file. BeginsWith file found.entries.items)
      ((consistent disk).tells_content settled.rules) settled.synced begins image left)
      (λ whole. whole.made)
      (λ whole settled image left.
      synced_has (state disk).content (state disk).may_leave (λ file. HasJust file found.entries.items)
      ((consistent disk).tells_content settled.rules) settled.synced whole.made image left)

  pub keeps_opened : KeepsJournal state (opened_with disk found.entries.items)
  unfolding faults_in
  keeps_opened = record {
    name = refl;
    telling = refl;
    rules = refl;
    faults = omega arith;
    placed = AreInPlace-none found.entries.items;
    how = (λ off. absurd (cc), λ on. kept_opened);
  }

  pub whole_opened : found.stopped ≡ None → IsWhole state (opened_with disk found.entries.items)
  unfolding faults_in
  whole_opened none = record {
    made = content_weaker (state disk).content (HasEntries found) (λ file. HasJust file found.entries.items) content_has
        (λ file has. subst (GoesOnWith file found.entries.items) (has.just none) has.parts);
    no_fault = refl;
  }

  pub numbers_opened : (count : ℕ) → count ≡ length found.entries.items
      → HasNumbers (opened_with disk found.entries.items) found.end_at count
  numbers_opened count is = record {
    end = λ on. in_order.end ∙ ap end_of (sym list-opened);
    len = is ∙ ap length (sym list-opened);
  }
