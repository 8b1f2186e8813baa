-- From what a walk finds at the root to the least number of a pair that passes, whatever passes.
use Rattle.std.proofs.Common.{◌≡◌, ℕ, ◌+◌, ◌*◌, ◌^◌, ◌<◌, ◌≤◌, Option, Some, None, List, [], ◌∷◌, ◌++◌, get_or, inl, inr}
use Rattle.std.proofs.Common.{arith, refl, sym, subst}
use Rattle.std.proofs.Math.Nat.{mul_comm}
use Rattle.std.specs.Prelude.{All, Any, IfSome, MatchOption}
use Rattle.std.proofs.lemmas.List.Elements.{All-map, Contains-get_or}
use Rattle.lin_model.specs.KeyAtom.{PlainKeyAtom}
use Rattle.key_tree.specs.declared.branch.Branch.{Branch}
use Rattle.key_tree.specs.declared.held.Held.{Held}
use Rattle.key_tree.specs.Tree.{PlainTree, Pair, IsTree, Holds, ways_from, way_to, pairs_of}
use Rattle.key_tree.specs.Held.{IsLeastAt, IsLeastOf}
use Rattle.key_tree.specs.Walks.{PassesBehind, IsLeastFound}

-- the first of the ways stays where it is
first_way : (way : List PlainKeyAtom) (ways : List (List PlainKeyAtom)) (branches : List Branch)
    → get_or (ways_from (way ∷ ways) branches) 0 [] ≡ way
unfolding ways_from
first_way way ways [] = refl
first_way way ways (b ∷ bs) = first_way way (ways ++ (get_or (way ∷ ways) b.from [] ++ b.atom ∷ []) ∷ []) bs

-- the way to the root is empty
pub way_to_root : (tree : PlainTree) → way_to tree 0 ≡ []
way_to_root tree = first_way [] [] tree.branches

module _ (tree : PlainTree) (tree_is : IsTree tree) where
  -- the numbers of pairs are below 2^32
  numbers_below : All (λ p. p.number < 2 ^ 32) (pairs_of tree)
  numbers_below =
      All-map (λ (p : Pair). p.number < 2 ^ 32)
      (λ (h : Held). record { key = way_to tree h.place; number = h.number }) tree.held tree_is.numbers

  module _ (Passes : List PlainKeyAtom → Type 0) (found : ℕ)
      (walked : IsLeastFound tree 0 Passes (2 ^ 32) found) where
    -- a pair that passes is behind the root, so no less number was found
    no_less : All (λ p. Passes p.key → found ≤ p.number) (pairs_of tree)
    no_less k d lt passes =
        let pair : Pair = get_or (pairs_of tree) k d in
        let held : Holds tree pair.key pair.number = Contains-get_or (pairs_of tree) k d lt in
        walked.least pair.number (record {
          rest = pair.key;
          held = subst (λ (way : List PlainKeyAtom). Holds tree (way ++ pair.key) pair.number)
              (sym (way_to_root tree)) held;
          passes = passes;
        })

    -- where nothing was found no pair passes
    none_found : found ≡ 2 ^ 32 → All (λ p. ¬ Passes p.key) (pairs_of tree)
    none_found is k d lt passes =
        let above = no_less k d lt passes in let below = numbers_below k d lt in omega (arith, above, below)

    -- a key behind the root that passes is that of a pair
    pair_passes : PassesBehind tree 0 Passes found → Any (λ p. (p.number ≡ found) × Passes p.key) (pairs_of tree)
    pair_passes behind =
        let held : Holds tree behind.rest found =
        subst (λ (way : List PlainKeyAtom). Holds tree (way ++ behind.rest) found) (way_to_root tree) behind.held in
        (held.0, record { key = behind.rest; number = found }, held.1, held.2, (refl, behind.passes))

    -- what was found is the least number of a pair that passes
    one_found : found < 2 ^ 32 → IsLeastAt Passes (pairs_of tree) found
    one_found less = record {
      here = elim walked.attained [ inl same ↦ absurd (omega (arith, same)) | inr behind ↦ pair_passes behind ];
      least = no_less;
    }

    -- the answer from what was found
    pub first_from_found : (result : Option ℕ) → MatchOption result (found ≡ 2 ^ 32) (λ n. n ≡ found)
        → IfSome result (λ n. n < 2 ^ 32) → IsLeastOf Passes (pairs_of tree) result
    first_from_found None is less = none_found is
    first_from_found (Some n) is less =
        subst (λ (m : ℕ). IsLeastAt Passes (pairs_of tree) m) (sym is) (one_found (omega (arith, less, is)))

-- as many steps, with the factors the other way round
pub turned_cost : (before after each nodes : ℕ) → after ≤ before + each * nodes → after ≤ before + nodes * each
turned_cost before after each nodes le = omega (arith, le, mul_comm each nodes)
