-- What stands in front of the classes.
use Rattle.std.proofs.Common.{◌≡◌, ◌↔◌, ℕ, ◌<◌, List, [], ◌∷◌, length, refl, arith}
use Rattle.slicer.specs.Slices.{PlainSlice, Lists, IsFront}
use Rattle.slicer.proofs.ListsLemmas.{Lists-same}

pub IsFront-none : (P : ℕ → Type 0) (atoms : List ℕ) → Lists P atoms → length atoms ≡ 0 → IsFront P []
IsFront-none P atoms lists none j holds = let within = ((lists.just j).1 holds).1 in absurd (omega arith)

pub IsFront-one : (P : ℕ → Type 0) (atoms : List ℕ) → Lists P atoms → 0 < length atoms
    → IsFront P (record { vars = []; atoms = atoms } ∷ [])
IsFront-one P atoms lists some = record { vars = refl; atoms = lists; some = some }

pub IsFront-same : (P Q : ℕ → Type 0) → ((n : ℕ) → P n ↔ Q n) → (front : List PlainSlice) → IsFront P front
    → IsFront Q front
IsFront-same P Q same [] none = λ j q. none j ((same j).1 q)
IsFront-same P Q same (slice ∷ []) variable_free = record {
  vars = variable_free.vars;
  atoms =
      Lists-same P Q slice.atoms same variable_free.atoms;
  some = variable_free.some;
}
IsFront-same P Q same (slice ∷ another ∷ more) two = two
