-- A branch of which the asked atoms imply the atom, or don't.
use Rattle.std.proofs.Common.{◌≡◌, ℕ, Bool, true, false, List, ◌∷◌, subst}
use Rattle.std.specs.Prelude.{IsTrue, Any, ◌↔◌}
use Rattle.lin_model.specs.KeyAtom.{PlainKeyAtom}
use Rattle.atom_implies.specs.Implies.{Covers, Implies}
use Rattle.key_tree.specs.Tree.{PlainTree, branch_to}
use Rattle.key_tree.specs.Walks.{IsLeastFound}
use Rattle.unsat_trie.proofs.CoverLemmas.{covers_cons, implied_from_covers, rest_from_covers}
use Rattle.key_tree.specs.Found.{none_passes, found_alike}

module _ (tree : PlainTree) (place : ℕ) (asked : List PlainKeyAtom) (atom : PlainKeyAtom)
    (is : atom ≡ (branch_to tree place).atom) (implied : Bool)
    (exact : IsTrue implied ↔ Any (λ b. Implies b atom) asked) where
  -- where no asked atom implies the branch's, no key behind it is covered
  pub found_unimplied : implied ≡ false → (best : ℕ)
      → IsLeastFound tree place (λ rest. Covers asked ((branch_to tree place).atom ∷ rest)) best best
  found_unimplied unimplied best =
      subst (λ (a : PlainKeyAtom). IsLeastFound tree place (λ rest. Covers asked (a ∷ rest)) best best) is
      (none_passes tree place (λ (rest : List PlainKeyAtom). Covers asked (atom ∷ rest)) best
      (λ rest covers. let holds : implied ≡ true = exact.1 (implied_from_covers asked atom rest covers) in absurd (cc)))

  -- where one does, those are covered of which the rest is
  pub found_implied : implied ≡ true → (best found : ℕ)
      → IsLeastFound tree place (λ rest. Covers asked rest) best found
      → IsLeastFound tree place (λ rest. Covers asked ((branch_to tree place).atom ∷ rest)) best found
  found_implied holds best found least =
      subst (λ (a : PlainKeyAtom). IsLeastFound tree place (λ rest. Covers asked (a ∷ rest)) best found) is
      (found_alike tree place (λ (rest : List PlainKeyAtom). Covers asked rest)
      (λ (rest : List PlainKeyAtom). Covers asked (atom ∷ rest)) best found
      (λ rest covers. covers_cons asked atom rest (exact.0 holds) covers)
      (λ rest covers. rest_from_covers asked atom rest covers) least)
