-- A disk whose file was opened, or wasn't.
use Rattle.std.proofs.Common.{◌≡◌, ◌↔◌, inl, inr, ℕ, ◌+◌, ◌-◌, ◌^◌, ◌≤◌, Bool, true, false, List, length, min, Option, None, Some, IsTrue, refl, sym, ap, ◌∙◌, subst, arith}
use Rattle.std.proofs.lemmas.Bool.{false≢true}
use Rattle.std.specs.Option.{IfSome}
use Rattle.outside.specs.Counts.{Rose}
use Rattle.outside.specs.Crash.{IsConsistent, TearsAt, WritesAt}
use Rattle.outside.specs.Runs.{LeavesOnly, IsTornFrom, OnlyLooks}
use Rattle.outside.specs.RunFacts.{LeavesOnly-join, LeavesOnly-looked, LeavesOnly-weaker, IsSettled-looked, IsSettled-image, IsTornFrom-settled}
use Rattle.outside.specs.States.{DiskState}
use Rattle.journal.specs.declared.limits.TheConstants.{HEADER}
use Rattle.journal.specs.declared.recovered.Recovered.{Recovered}
use Rattle.journal.specs.declared.recovered.StartFault.{StartFault}
use Rattle.journal.specs.declared.recovered.StartFault.TheVariants as faults
use Rattle.journal.specs.Opening.{IsSameDisk, FileBecomes, IsBegun, IsLeft, EntriesSurvive, LooksIfBegun, Opens, FailsToOpen, start_cause, IsUnwritten}
use Rattle.journal.specs.Recovery.{IsRecovered, IsUnbegun, KeepsEntries}
use Rattle.journal.specs.Saving.{Saves, TearsAtMost}
use Rattle.journal.proofs.HeaderLemmas.{cases_unbegun, KeepsEntries-torn, patched-unbegun}

-- ---- a disk that was only looked at

module _ (old new : DiskState) (fits : IsConsistent old) (looks : OnlyLooks old new) where
  pub same_looked : IsSameDisk old new
  same_looked = record { name = looks.name; telling = looks.telling; rules = looks.rules; faults = looks.faults }

  pub survives_looked : EntriesSurvive old new
  survives_looked settled = by_content old.content refl
    where
      by_content : (content : Option (List ℕ)) → old.content ≡ content
          → IfSome content (λ file. LeavesOnly old new (KeepsEntries file))
      by_content None is = tt
      by_content (Some file) is =
          LeavesOnly-looked old new (KeepsEntries file) fits settled.rules looks (λ image left.
          subst (KeepsEntries file) (sym (IsSettled-image old file image settled is left))
          (λ entries recovers. recovers))

  pub left_looked : FileBecomes IsLeft old.content new.content
  left_looked = by_content old.content looks.content
    where
      by_content : (content : Option (List ℕ)) → new.content ≡ content → FileBecomes IsLeft content new.content
      by_content None is = is
      by_content (Some file) is = (
        file,
        is,
        elim (cases_unbegun file) [
          | inl unbegun ↦ inl (unbegun, unbegun.short)
          | inr begun ↦ inr (begun, refl)
        ],
      )

  if_begun : LooksIfBegun old new
  if_begun = by_content old.content
    where
      by_content : (content : Option (List ℕ)) → IfSome content (λ file. ¬ IsUnbegun file → OnlyLooks old new)
      by_content None = tt
      by_content (Some file) = λ begun. looks

  unwritten_looked : (fault : StartFault) → IsUnwritten fault old new
  unwritten_looked faults.Disk = if_begun
  unwritten_looked faults.NotJournal = looks
  unwritten_looked faults.NoMemory = looks

  pub FailsToOpen-looked : (fault : StartFault) → start_cause old new fault → FailsToOpen fault old new
  FailsToOpen-looked fault cause = record {
    same = same_looked;
    cause = cause;
    unwritten = unwritten_looked fault;
    left = left_looked;
    survives = survives_looked;
  }

  pub Opens-looked : (found : Recovered) → IfSome old.content (λ file. IsRecovered file found)
      → IfSome old.content (λ file. ¬ IsUnbegun file) → Opens found old new
  Opens-looked found recovered begun = record {
    same = same_looked;
    recovered = recovered;
    begun = by_content old.content looks.content begun;
    unwritten = if_begun;
    settled = IsSettled-looked old new fits looks;
    survives = survives_looked;
  }
    where
      by_content : (content : Option (List ℕ)) → new.content ≡ content → IfSome content (λ file. ¬ IsUnbegun file)
          → FileBecomes IsBegun content new.content
      by_content None is begun = is
      by_content (Some file) is begun = (file, is, inr (begun, refl))

-- the count rose since before
rose_since : (old mid new most : ℕ) → old ≤ mid → min (mid + 1) most ≤ new → min (old + 1) most ≤ new
rose_since old mid new most later rose = omega arith

-- ---- a disk whose file wasn't begun, and the header was written to it

module _ (old mid new : DiskState) (fits : IsConsistent old) (looks : OnlyLooks old mid)
    (unbegun : IfSome old.content IsUnbegun) (at_most : TearsAtMost 0 (length HEADER) mid new) where
  same_begun : IsSameDisk old new
  same_begun = record {
    name = at_most.same.name ∙ looks.name;
    telling = at_most.same.telling ∙ looks.telling;
    rules = at_most.same.rules ∙ looks.rules;
    faults = omega (arith, at_most.same.faults, looks.faults);
  }

  survives_begun : EntriesSurvive old new
  survives_begun settled = by_content old.content refl unbegun (survives_looked old mid fits looks settled)
    where
      by_content : (content : Option (List ℕ)) → old.content ≡ content → IfSome content IsUnbegun
          → IfSome content (λ file. LeavesOnly old mid (KeepsEntries file))
          → IfSome content (λ file. LeavesOnly old new (KeepsEntries file))
      by_content None is fresh run = tt
      by_content (Some file) is fresh run =
          let settled_mid = IsSettled-looked old mid fits looks settled in
          LeavesOnly-join old mid new (KeepsEntries file) run (
          LeavesOnly-weaker mid new (IsTornFrom mid 0 (length HEADER)) (KeepsEntries file)
          (at_most.any_moment settled_mid.rules)
          (λ image torn.
          KeepsEntries-torn file image fresh
          (IsTornFrom-settled mid file 0 (length HEADER) image settled_mid (looks.content ∙ is) torn))
          )

  if_unbegun : LooksIfBegun old new
  if_unbegun = by_content old.content unbegun
    where
      by_content : (content : Option (List ℕ)) → IfSome content IsUnbegun
          → IfSome content (λ file. ¬ IsUnbegun file → OnlyLooks old new)
      by_content None fresh = tt
      by_content (Some file) fresh = λ begun. absurd (begun fresh)

  pub FailsToOpen-torn : Rose mid.faults new.faults → TearsAt mid.content new.content 0 (length HEADER)
      → FailsToOpen faults.Disk old new
  FailsToOpen-torn rose torn = record {
    same = same_begun;
    cause = rose_since old.faults mid.faults new.faults (2 ^ 64 - 1) looks.faults rose;
    unwritten = if_unbegun;
    left = by_content old.content unbegun
        (subst (λ (content : Option (List ℕ)). TearsAt content new.content 0 (length HEADER)) looks.content torn);
    survives = survives_begun;
  }
    where
      by_content : (content : Option (List ℕ)) → IfSome content IsUnbegun
          → TearsAt content new.content 0 (length HEADER) → FileBecomes IsLeft content new.content
      by_content None fresh tears = tears
      by_content (Some file) fresh tears =
          (tears.0, tears.2, inl (fresh, omega (arith, tears.1.no_longer, fresh.short)))

  pub Opens-begun : (found : Recovered) → IfSome old.content (λ file. IsRecovered file found)
      → Saves 0 HEADER mid new → Opens found old new
  Opens-begun found recovered saves = record {
    same = same_begun;
    recovered = recovered;
    begun = by_content old.content unbegun
        (subst (λ (content : Option (List ℕ)). WritesAt content new.content 0 HEADER) looks.content saves.written);
    unwritten = if_unbegun;
    settled = λ settled.
        let settled_mid = IsSettled-looked old mid fits looks settled in
        record {
          rules = at_most.same.rules ∙ settled_mid.rules;
          synced = saves.durable settled_mid.rules;
        };
    survives = survives_begun;
  }
    where
      by_content : (content : Option (List ℕ)) → IfSome content IsUnbegun → WritesAt content new.content 0 HEADER
          → FileBecomes IsBegun content new.content
      by_content None fresh writes = writes
      by_content (Some file) fresh writes = (HEADER, writes ∙ ap (λ (f : List ℕ). Some f) (patched-unbegun file fresh), inl (fresh, refl))

-- ---- whether the file was begun, as it was read

pub unbegun_by : (content : Option (List ℕ)) (begun : Bool) → IfSome content (λ file. IsTrue begun ↔ ¬ IsUnbegun file)
    → begun ≡ false → IfSome content IsUnbegun
unbegun_by None begun says is = tt
unbegun_by (Some file) begun says is = elim (cases_unbegun file) [
  | inl fresh ↦ fresh
  | inr other ↦ absurd (false≢true (sym is ∙ says.1 other))
]

pub begun_by : (content : Option (List ℕ)) (begun : Bool) → IfSome content (λ file. IsTrue begun ↔ ¬ IsUnbegun file)
    → begun ≡ true → IfSome content (λ file. ¬ IsUnbegun file)
begun_by None begun says is = tt
begun_by (Some file) begun says is = says.0 is
