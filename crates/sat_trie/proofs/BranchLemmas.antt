-- A branch whose atom covers some of what is wanted, or none of it.
use Rattle.std.proofs.Common.{◌≡◌, ℕ, ◌<◌, ◌∙◌, List, [], ◌∷◌, ◌++◌, length, inr, refl, sym, subst, arith}
use Rattle.std.specs.List.{All}
use Rattle.lin_model.specs.KeyAtom.{PlainKeyAtom}
use Rattle.atom_implies.specs.Implies.{Implies, Covers}
use Rattle.key_tree.specs.Prints.{hash_of}
use Rattle.key_tree.specs.Tree.{PlainTree, IsTree, Holds, way_to, branch_to}
use Rattle.key_tree.specs.Laws.{PrintsAreRight}
use Rattle.key_tree.specs.Walks.{IsLeastFound}
use Rattle.key_tree.specs.Found.{found_alike}
use Rattle.sat_trie.proofs.CoverLemmas.{Covers-more, Covers-fewer, none_implied, LeavesOf, leaves_nothing}

-- where all pass, the least number behind a branch is found
found_least : (tree : PlainTree) (place best least : ℕ) (Passes : List PlainKeyAtom → Type 0) → IsTree tree
    → 0 < place → place < length tree.places → least ≡ (branch_to tree place).least → least < best
    → ((rest : List PlainKeyAtom) → Passes rest) → IsLeastFound tree place Passes best least
found_least tree place best least Passes is_tree some within is lt all =
    let behind = is_tree.least place some within in
    record {
      falls = omega arith;
      attained = inr (record {
        rest = behind.rest;
        held = subst (λ (n : ℕ). Holds tree (way_to tree place ++ behind.rest) n) (sym is) behind.held;
        passes = all behind.rest;
      });
      least = λ number passes.
          let above = behind.least passes.rest number passes.held in
          omega (arith, is);
    }

module _ (tree : PlainTree) (place : ℕ) (wanted : List PlainKeyAtom) (atom : PlainKeyAtom)
    (is : atom ≡ (branch_to tree place).atom) where
  -- what is found behind the branch, where it is found for the atom that was read
  of_branch : (best found : ℕ) → IsLeastFound tree place (λ rest. Covers (atom ∷ rest) wanted) best found
      → IsLeastFound tree place (λ rest. Covers ((branch_to tree place).atom ∷ rest) wanted) best found
  of_branch best found walked =
      subst (λ (a : PlainKeyAtom). IsLeastFound tree place (λ rest. Covers (a ∷ rest) wanted) best found) is walked

  -- where the atom covers nothing that is wanted, what is behind it has to cover all
  pub found_nothing : (best found : ℕ) → All (λ b. ¬ Implies atom b) wanted
      → IsLeastFound tree place (λ rest. Covers rest wanted) best found
      → IsLeastFound tree place (λ rest. Covers ((branch_to tree place).atom ∷ rest) wanted) best found
  found_nothing best found none walked =
      of_branch best found
      (found_alike tree place (λ (rest : List PlainKeyAtom). Covers rest wanted)
      (λ (rest : List PlainKeyAtom). Covers (atom ∷ rest) wanted) best found
      (λ rest. Covers-more atom rest wanted) (λ rest. Covers-fewer atom rest wanted none) walked)

  -- so it is where no form that is wanted has its form's hash
  pub found_without : PrintsAreRight → (hash best found : ℕ) → hash ≡ hash_of (branch_to tree place).atom.form
      → All (λ a. ¬ (hash_of a.form ≡ hash)) wanted → IsLeastFound tree place (λ rest. Covers rest wanted) best found
      → IsLeastFound tree place (λ rest. Covers ((branch_to tree place).atom ∷ rest) wanted) best found
  found_without prints hash best found same others walked =
      found_nothing best found
      (none_implied prints atom wanted
      (subst (λ (h : ℕ). All (λ a. ¬ (hash_of a.form ≡ h)) wanted)
      (same ∙ subst (λ (a : PlainKeyAtom). hash_of a.form ≡ hash_of atom.form) is refl) others)) walked

  module _ (left : List PlainKeyAtom) (leaves : LeavesOf atom wanted left) where
    -- what is behind it has to cover what is left
    pub found_left : (best found : ℕ) → IsLeastFound tree place (λ rest. Covers rest left) best found
        → IsLeastFound tree place (λ rest. Covers ((branch_to tree place).atom ∷ rest) wanted) best found
    found_left best found walked =
        of_branch best found
        (found_alike tree place (λ (rest : List PlainKeyAtom). Covers rest left)
        (λ (rest : List PlainKeyAtom). Covers (atom ∷ rest) wanted) best found (λ rest. (leaves rest).0)
        (λ rest. (leaves rest).1) walked)

    -- where nothing is left, the least number behind it is found
    pub found_whole : IsTree tree → 0 < place → place < length tree.places → (best least : ℕ) → left ≡ []
        → least ≡ (branch_to tree place).least → least < best
        → IsLeastFound tree place (λ rest. Covers ((branch_to tree place).atom ∷ rest) wanted) best least
    found_whole is_tree some within best least nothing same less =
        of_branch best least
        (found_least tree place best least (λ (rest : List PlainKeyAtom). Covers (atom ∷ rest) wanted) is_tree some
        within same less (leaves_nothing atom wanted left leaves nothing))
