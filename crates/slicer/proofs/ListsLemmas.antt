-- Ascending lists of just the numbers of which something holds.
use Rattle.std.proofs.Common.{◌↔◌, ℕ, ◌+◌, ◌<◌, List, [], ◌∷◌, ◌++◌, get_or, inl, inr, arith, subst}
use Rattle.std.proofs.lemmas.List.Elements.{Contains-append_left, Contains-push, Contains-push_cases, Contains-get_or}
use Rattle.std.proofs.lemmas.List.Quantifiers.{all_pairs_push}
use Rattle.lin_model.specs.Lists.{below_or_last}
use Rattle.slicer.specs.Slices.{Lists}

-- those below a count
abbrev pub Below : (ℕ → Type 0) → ℕ → ℕ → Type 0
Below P count n = (n < count) × P n

pub Lists-none : (P : ℕ → Type 0) → Lists (Below P 0) []
Lists-none P = record {
  ascending = λ i j d before within. absurd (omega arith);
  just = λ n. (λ has. absurd (omega (arith, has.1)), λ below. absurd (omega (arith, below.0)));
}

pub Lists-kept : (P : ℕ → Type 0) (count : ℕ) (numbers : List ℕ) → Lists (Below P count) numbers → P count
    → Lists (Below P (count + 1)) (numbers ++ count ∷ [])
Lists-kept P count numbers so_far here = record {
  ascending =
      all_pairs_push ◌<◌ numbers count so_far.ascending
      (λ k d within. ((so_far.just (get_or numbers k d)).0 (Contains-get_or numbers k d within)).0);
  just = λ n. (
    λ has. elim (Contains-push_cases numbers count n has) [
      | inl earlier ↦ (let below = (so_far.just n).0 earlier in (let lt = below.0 in omega arith, below.1))
      | inr last ↦ (omega arith, subst P last here)
    ],
    λ below. elim (below_or_last n count below.0) [
      | inl earlier ↦ Contains-append_left numbers (count ∷ []) n ((so_far.just n).1 (earlier, below.1))
      | inr last ↦ rw last (Contains-push numbers count)
    ],
  );
}

pub Lists-skipped : (P : ℕ → Type 0) (count : ℕ) (numbers : List ℕ) → Lists (Below P count) numbers → ¬ P count
    → Lists (Below P (count + 1)) numbers
Lists-skipped P count numbers so_far not_here = record {
  ascending = so_far.ascending;
  just = λ n. (
    λ has. (let below = (so_far.just n).0 has in (let lt = below.0 in omega arith, below.1)),
    λ below. elim (below_or_last n count below.0) [
      | inl earlier ↦ (so_far.just n).1 (earlier, below.1)
      | inr last ↦ absurd (not_here (subst P last below.1))
    ],
  );
}

-- the same numbers, told otherwise
pub Lists-same : (P Q : ℕ → Type 0) (numbers : List ℕ) → ((n : ℕ) → P n ↔ Q n) → Lists P numbers → Lists Q numbers
Lists-same P Q numbers same lists = record {
  ascending = lists.ascending;
  just = λ n. (λ has. (same n).0 ((lists.just n).0 has), λ q. (lists.just n).1 ((same n).1 q));
}
