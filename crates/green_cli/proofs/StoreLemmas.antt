-- What opening a file leaves of it.
use Rattle.std.proofs.Common.{◌≡◌, ◌≢◌, ◌⊎◌, ◌↔◌, inl, inr, ℕ, ◌<◌, ◌≤◌, List, length, Option, None, Some, IsTrue}
use Rattle.std.proofs.Common.{refl, sym, ap, ◌∙◌, subst, arith, false, true, append-nil, [], ◌++◌, Result, Ok, Err}
use Rattle.std.specs.Prelude.{OnOk}
use Rattle.clap.specs.Words.{Text}
use Rattle.cert_check.specs.declared.wrote.Wrote.{Wrote}
use Rattle.std.proofs.lemmas.Bool.{cases_Bool, cases_lt, false≢true}
use Rattle.std.proofs.lemmas.Slice.Eq.{bytes_eq-Decides}
use Rattle.std.specs.Option.{IfSome}
use Rattle.std.specs.Str.{bytes_eq}
use Rattle.cert_check.specs.declared.entry.Entry.{Entry}
use Rattle.outside.specs.Crash.{GoesOn, IsConsistent, Looks, Synced}
use Rattle.outside.specs.RunFacts.{IsSettled-image, LeavesOnly-begun, LeavesOnly-now, OnlyLooks-refl}
use Rattle.outside.specs.Runs.{HasSamePast, IsSettled, LeavesOnly, OnlyLooks}
use Rattle.outside.specs.States.{DiskState}
use Rattle.journal.specs.declared.limits.TheConstants.{HEADER}
use Rattle.journal.specs.Journals.{IsFresh, KeepsJournal, PlainJournal, list_of, saved_in}
use Rattle.journal.specs.Laws.{KeptEntriesAreHeld}
use Rattle.journal.specs.Opening.{EntriesSurvive, FailsToOpen, FileBecomes, IsLeft, Opens}
use Rattle.journal.specs.Recovery.{HoldsAtLeast, IsForeign, IsInOrder, IsRecovered, IsUnbegun, KeepsEntries, RecoversTo}
use Rattle.journal.specs.declared.recovered.Recovered.{Recovered}
use Rattle.journal.specs.declared.recovered.StartFault.{StartFault}
use Rattle.journal.specs.declared.recovered.StartFault.TheVariants as start
use Rattle.green_cli.specs.Opened.{FailsToOpenFile, IsFileOpened, IsNoFileOpened}
use Rattle.green_cli.specs.Statuses.{fault_of_start}
use Rattle.green_cli.specs.Saves.{OldEntriesSurvive}
use Rattle.green_cli.specs.Stores.{IsUnwritten}

-- a file was begun or not
cases_unbegun : (file : List ℕ) → IsUnbegun file ⊎ (¬ IsUnbegun file)
cases_unbegun file =
    let decides = bytes_eq-Decides file HEADER in
    elim (cases_lt (length HEADER) (length file)) [
      | inl long ↦ inr (λ unbegun. omega (arith, unbegun.short, long))
      | inr short ↦ elim (cases_Bool (bytes_eq file HEADER)) [
        | inl same ↦ inr (λ unbegun. unbegun.other (decides.0 same))
        | inr differ ↦ inl (record {
          short = short;
          other = λ is. absurd (false≢true (sym differ ∙ decides.1 is));
        })
      ]
    ]

-- what wasn't changed is left so
pub left_alone : (old new : Option (List ℕ)) → new ≡ old → FileBecomes IsLeft old new
left_alone None new is = is
left_alone (Some file) new is = (
  file,
  is,
  elim (cases_unbegun file) [
    | inl unbegun ↦ inl (unbegun, unbegun.short)
    | inr begun ↦ inr (begun, refl)
  ],
)

-- nothing that a settled disk leaves is lost
survive_still : (disk : DiskState) → IsConsistent disk → EntriesSurvive disk disk
survive_still disk fits settled = by_content disk.content refl
  where
    by_content : (content : Option (List ℕ)) → disk.content ≡ content
        → IfSome content (λ file. LeavesOnly disk disk (KeepsEntries file))
    by_content None is = tt
    by_content (Some file) is =
        LeavesOnly-begun disk (KeepsEntries file) fits settled.rules (λ image left.
        subst (KeepsEntries file) (sym (IsSettled-image disk file image settled is left))
        (λ entries recovers. recovers))

-- ---- a file that was chosen

-- choosing a file changes nothing that the disk tells of it
module _ (before mid : DiskState) (fits : IsConsistent before) (looks : Looks before mid) (goes : GoesOn before mid) where
  pub settled_chosen : IsSettled before → IsSettled mid
  settled_chosen settled = record {
    rules = goes.rules ∙ settled.rules;
    synced = subst (λ (content : Option (List ℕ)). Synced content mid.may_leave) (sym looks.content)
        (by_content before.content settled.synced);
  }
    where
      by_content : (content : Option (List ℕ)) → Synced content before.may_leave → Synced content mid.may_leave
      by_content None synced = tt
      by_content (Some file) synced = λ image.
          let same = looks.images (fits.tells settled.rules) image in
          (λ left. (synced image).0 (same.0 left), λ is. same.1 ((synced image).1 is))

  -- what then survives survives the whole
  pub old_survive : KeptEntriesAreHeld → (after : DiskState) → IsConsistent after → EntriesSurvive mid after
      → OldEntriesSurvive before after
  old_survive held after fits_after survive settled =
      by_content before.content looks.content (survive (settled_chosen settled))
    where
      by_content : (content : Option (List ℕ)) → mid.content ≡ content
          → IfSome mid.content (λ file. LeavesOnly mid after (KeepsEntries file))
          → IfSome content (λ file. (entries : List Entry) → RecoversTo file entries → (image : List ℕ)
          → after.may_leave image → HoldsAtLeast image entries)
      by_content None is all = tt
      by_content (Some file) is all = λ entries recovers image left.
          let only : LeavesOnly mid after (KeepsEntries file) =
          subst (λ (c : Option (List ℕ)). IfSome c (λ f. LeavesOnly mid after (KeepsEntries f))) is all in
          held file image entries recovers (LeavesOnly-now mid after (KeepsEntries file) fits_after only image left)

  pub survive_chosen : KeptEntriesAreHeld → IsConsistent mid → OldEntriesSurvive before mid
  survive_chosen held fits_mid = old_survive held mid fits_mid (survive_still mid fits_mid)

  -- nor do looks at it
  pub unwritten_looked : (after : DiskState) → OnlyLooks mid after → IsUnwritten before after
  unwritten_looked after looked = record {
    content = looked.content ∙ looks.content;
    images = λ tells image.
        let first = looks.images tells image in
        let second = looked.images (goes.telling ∙ tells) image in
        (λ left. first.0 (second.0 left), λ left. second.1 (first.1 left));
    past = λ rules.
        let later = (goes.time rules).later in
        let second = looked.past (goes.rules ∙ rules) in
        record {
          later = omega (arith, later, second.later);
          since = λ t image since.
              let one = looks.past (fits.tells rules) t image since in
              let two = second.since t image (omega (arith, since, later)) in
              (λ left. one.0 (two.0 left), λ left. two.1 (one.1 left));
        };
  }

  pub unwritten_chosen : IsUnwritten before mid
  unwritten_chosen = unwritten_looked mid (OnlyLooks-refl mid)

  -- why the journal didn't open it
  pub fails_so : KeptEntriesAreHeld → (after : DiskState) → IsConsistent after → before.faults ≤ mid.faults
      → (fault : StartFault) → FailsToOpen fault mid after → FailsToOpenFile before after (fault_of_start fault)
  fails_so held after fits_after later start.Disk fails = record {
    rose = omega (arith, later, fails.cause);
    left = subst (λ (content : Option (List ℕ)). FileBecomes IsLeft content after.content) looks.content fails.left;
    survive = old_survive held after fits_after fails.survives;
  }
  fails_so held after fits_after later start.NotJournal fails = record {
    foreign = subst (λ (content : Option (List ℕ)). IfSome content IsForeign) looks.content fails.cause;
    unwritten = unwritten_looked after fails.unwritten;
  }
  fails_so held after fits_after later start.NoMemory fails = old_survive held after fits_after fails.survives

-- ---- what was opened

pub ok_has : {T E : Type 0} (r : Result T E) (P : Type 0) → ((e : E) → r ≡ Err e → ⊥) → OnOk r P → P
ok_has (Ok t) P not p = p
ok_has (Err e) P not p = absurd (not e refl)

pub saved_none : saved_in [] ≡ []
unfolding saved_in
saved_none = refl

recovers_to : (content : Option (List ℕ)) (found : Recovered) → IfSome content (λ file. IsRecovered file found)
    → IfSome content (λ file. RecoversTo file found.entries.items)
recovers_to None found recovered = tt
recovers_to (Some file) found recovered = (recovered.rest, recovered.entries)

pub file_opened : {D : Type 0} (state : D → DiskState) (name : Text) (disk : D) (mid : DiskState)
    → IsConsistent (state disk) → Looks (state disk) mid → GoesOn (state disk) mid → (state disk).faults ≤ mid.faults
    → mid.name ≡ Some name → (journal : PlainJournal D) (found : Recovered) → Opens found mid (state journal.disk)
    → IsFresh found.entries.items journal → IsInOrder found → KeepsJournal state journal
    → IsFileOpened state name disk (record { journal = journal; recovered = found })
file_opened {D} state name disk mid fits looks goes later named journal found opens fresh in_order kept = record {
  started = record {
    list = sym fresh.opening
        ∙ (sym (append-nil journal.opening)
        ∙ sym (ap (λ (ws : List Wrote). journal.opening ++ saved_in ws) fresh.nothing
        ∙ ap (λ (l : List Entry). journal.opening ++ l) saved_none));
    no_writes = fresh.nothing;
    kept = kept;
  };
  on = fresh.on;
  began = record {
    recovered = recovers_to (state disk).content found
        (subst (λ (content : Option (List ℕ)). IfSome content (λ file. IsRecovered file found)) looks.content
        opens.recovered);
    storable = in_order.storable;
  };
  named = ap (λ (d : D). (state d).name) fresh.made ∙ (opens.same.name ∙ named);
  settled = λ settled. subst (λ (d : D). IsSettled (state d)) (sym fresh.made)
      (opens.settled (settled_chosen (state disk) mid fits looks goes settled));
  faults = omega (arith, later, opens.same.faults, ap (λ (d : D). (state d).faults) fresh.made);
}

pub none_opened_so : {D : Type 0} (state : D → DiskState) (disk : D) (journal : PlainJournal D) (found : Recovered)
    → journal ≡ record { disk = disk; made = disk; off = true; opening = []; wrotes = [] }
    → KeepsJournal state journal → found.entries.items ≡ []
    → IsNoFileOpened state disk (record { journal = journal; recovered = found })
none_opened_so {D} state disk journal found is kept none = record {
  started = record {
    list = none ∙ sym (ap (λ (j : PlainJournal D). list_of j) is ∙ saved_none);
    no_writes = ap (λ (j : PlainJournal D). j.wrotes) is;
    kept = kept;
  };
  off = ap (λ (j : PlainJournal D). j.off) is;
  untouched = ap (λ (j : PlainJournal D). j.made) is;
}
