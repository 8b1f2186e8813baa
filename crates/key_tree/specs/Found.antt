-- What a walk finds at and behind a place, whatever passes.
use Rattle.std.proofs.Common.{◌≡◌, ℕ, ◌<◌, ◌≤◌, ◌∙◌, Option, Some, None, List, [], length, ◌⊎◌, inl, inr}
use Rattle.std.proofs.Common.{arith, refl, sym, subst}
use Rattle.std.specs.Prelude.{IfSome, IsSomeAnd}
use Rattle.std.proofs.lemmas.List.{append-nil}
use Rattle.lin_model.specs.KeyAtom.{PlainKeyAtom}
use Rattle.key_tree.specs.Tree.{PlainTree, IsTree, IsNumbered, Holds, way_to, place_at, branch_to}
use Rattle.key_tree.specs.Walks.{PassesBehind, IsLeastFound, IsLeastSoFar}

module _ (tree : PlainTree) (place : ℕ) (Passes : List PlainKeyAtom → Type 0) where
  -- where no less number passes, what was found before stays
  pub found_before : (best : ℕ) → ((number : ℕ) → PassesBehind tree place Passes number → best ≤ number)
      → IsLeastFound tree place Passes best best
  found_before best least = record { falls = omega arith; attained = inl refl; least = least }

  -- behind a branch whose least number is no less, nothing is looked for
  pub none_is_less : (best least : ℕ) → IsTree tree → 0 < place → place < length tree.places
      → least ≡ (branch_to tree place).least → best ≤ least → IsLeastFound tree place Passes best best
  none_is_less best least tree_is some within is less = found_before best
      (λ number behind.
      let above = (tree_is.least place some within).least behind.rest number behind.held in omega arith)

  -- nor where nothing passes
  pub none_passes : (best : ℕ) → ((rest : List PlainKeyAtom) → ¬ Passes rest)
      → IsLeastFound tree place Passes best best
  none_passes best none = found_before best (λ number behind. absurd (none behind.rest behind.passes))

  -- what else passes wherever this passes, and nowhere else, is found alike
  pub found_alike : (Others : List PlainKeyAtom → Type 0) (before found : ℕ)
      → ((rest : List PlainKeyAtom) → Passes rest → Others rest)
      → ((rest : List PlainKeyAtom) → Others rest → Passes rest) → IsLeastFound tree place Passes before found
      → IsLeastFound tree place Others before found
  found_alike Others before found to from least = record {
    falls = least.falls;
    attained = elim least.attained [
      | inl same ↦ inl same
      | inr behind ↦ inr (record {
        rest = behind.rest;
        held = behind.held;
        passes = to behind.rest behind.passes;
      })
    ];
    least = λ number behind. least.least number (record {
      rest = behind.rest;
      held = behind.held;
      passes = from behind.rest behind.passes;
    });
  }

  -- what was found from a number that passes was found from each that is no less
  pub found_from_start : (start before found : ℕ) → before ≤ start
      → (before ≡ start) ⊎ PassesBehind tree place Passes before → IsLeastFound tree place Passes before found
      → IsLeastFound tree place Passes start found
  found_from_start start before found le begun least = record {
    falls = omega (arith, le, least.falls);
    attained = elim least.attained [
      | inl same ↦ elim begun [
        | inl is ↦ inl (same ∙ is)
        | inr behind ↦ inr (subst (λ (n : ℕ). PassesBehind tree place Passes n) (sym same) behind)
      ]
      | inr behind ↦ inr behind
    ];
    least = least.least;
  }

  -- what is held under the number of the place passes, where nothing more is needed
  passes_here : (number : ℕ) → Passes [] → Holds tree (way_to tree place) number → PassesBehind tree place Passes number
  passes_here number pass held = record {
    rest = [];
    held = subst (λ (way : List PlainKeyAtom). Holds tree way number) (sym (append-nil (way_to tree place))) held;
    passes = pass;
  }

  -- the number of the place passes, if it has one
  number_passes : (number : Option ℕ) (found : ℕ) → Passes [] → IfSome number (λ n. Holds tree (way_to tree place) n)
      → IsSomeAnd number (λ n. n ≡ found) → PassesBehind tree place Passes found
  number_passes None found pass held is = absurd is
  number_passes (Some n) found pass held is =
      subst (λ (m : ℕ). PassesBehind tree place Passes m) is (passes_here n pass held)

  -- what is no more than the number of the place is no more than one that is no less
  below_number : (number : Option ℕ) (found n : ℕ) → IfSome number (λ m. found ≤ m) → IsSomeAnd number (λ m. m ≤ n)
      → found ≤ n
  below_number None found n least some = absurd some
  below_number (Some m) found n least some = omega arith

  -- what was found at the place alone, where what is held there passes
  pub found_here : (before found : ℕ) (number : Option ℕ) → IsTree tree → place < length tree.places
      → number ≡ (place_at tree place).number → Passes [] → found ≤ before
      → (found ≡ before) ⊎ IsSomeAnd number (λ n. n ≡ found) → IfSome number (λ n. found ≤ n)
      → IsLeastSoFar tree place Passes 0 before found
  found_here before found number tree_is within is pass falls attained least =
      let numbered : IsNumbered tree place = tree_is.numbered place within in
      record {
        falls = falls;
        attained = elim attained [
          | inl same ↦ inl same
          | inr some ↦ inr (number_passes (place_at tree place).number found pass numbered.held
              (subst (λ (o : Option ℕ). IsSomeAnd o (λ n. n ≡ found)) is some))
        ];
        here = λ n held _. below_number (place_at tree place).number found n
            (subst (λ (o : Option ℕ). IfSome o (λ m. found ≤ m)) is least) (numbered.least n held);
        least = λ k d n before_none _. absurd (omega (arith, before_none));
      }

  -- and where it doesn't
  pub none_here : (before : ℕ) → ¬ Passes [] → IsLeastSoFar tree place Passes 0 before before
  none_here before none = record {
    falls = omega arith;
    attained = inl refl;
    here = λ n held pass. absurd (none pass);
    least = λ k d n before_none _. absurd (omega (arith, before_none));
  }
