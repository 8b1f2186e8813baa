-- Journals that were just made.
use Rattle.std.proofs.Common.{true, [], refl, arith}
use Rattle.outside.specs.States.{DiskState}
use Rattle.journal.specs.Journals.{KeepsJournal, HasNumbers, saved_in, faults_in}
use Rattle.journal.proofs.WroteLemmas.{AreInPlace-none}

-- a journal that is off
pub keeps_off : {D : Type 0} (state : D → DiskState) (disk : D)
    → KeepsJournal state (record { disk = disk; made = disk; off = true; opening = []; wrotes = [] })
unfolding faults_in
keeps_off state disk = record {
  name = refl;
  telling = refl;
  rules = refl;
  faults = omega arith;
  placed = AreInPlace-none [];
  how = (λ off. record { empty = refl; nothing = refl; untouched = refl }, λ on. absurd (cc));
}

pub numbers_off : {D : Type 0} (disk : D)
    → HasNumbers (record { disk = disk; made = disk; off = true; opening = []; wrotes = [] }) 0 0
unfolding saved_in
numbers_off disk = record { end = λ on. absurd (cc); len = refl }
