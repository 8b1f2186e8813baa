-- Walks for a key that covers what is wanted.
use Rattle.std.proofs.Common.{◌≡◌, ℕ, ◌<◌, ◌≤◌, List, [], ◌∷◌, ◌++◌, length, get_or, ◌⊎◌, inl, inr, sym, subst, arith}
use Rattle.std.specs.List.{All, Any, IsDistinct}
use Rattle.std.proofs.lemmas.List.Elements.{All-nil}
use Rattle.lin_model.specs.KeyAtom.{PlainKeyAtom}
use Rattle.atom_implies.specs.Implies.{Implies, Covers}
use Rattle.key_tree.specs.Prints.{needs_of, gives_of, IsWithin}
use Rattle.key_tree.specs.Tree.{PlainTree, IsTree, Holds, way_to, place_at}
use Rattle.key_tree.specs.Laws.{PrintsAreRight, MasksAreRight}
use Rattle.key_tree.specs.Walks.{PassesBehind, IsLeastFound, Visits}
use Rattle.key_tree.specs.MaskFacts.{within_more}
use Rattle.key_tree.specs.Found.{found_from_start}
use Rattle.key_tree.specs.FromRoot.{way_to_root}
use Rattle.sat_trie.proofs.AnyLemmas.{Any-cases}
use Rattle.sat_trie.proofs.CoverLemmas.{Covers-itself}

module _ (masks : MasksAreRight) (prints : PrintsAreRight) (tree : PlainTree) (place : ℕ) (wanted : List PlainKeyAtom)
    (needs number : ℕ) (is_tree : IsTree tree) (lt : place < length tree.places)
    (over : (mask : ℕ) → All (λ a. IsWithin (needs_of a) mask) wanted → IsWithin needs mask) where
  -- what is needed by an atom that some atom behind a place implies is in the mask of the place
  needs_there : (rest : List PlainKeyAtom) (b : PlainKeyAtom) → Holds tree (way_to tree place ++ rest) number
      → Any (λ a. Implies a b) rest → IsWithin (needs_of b) (place_at tree place).below
  needs_there rest b held (k, a, within, is, implies) =
      within_more (needs_of b) (gives_of a) (place_at tree place).below (prints.gives a b implies)
      (subst (λ (x : PlainKeyAtom). IsWithin (gives_of x) (place_at tree place).below) is
      (masks tree place rest number k a is_tree lt held within))

  -- where a key behind a place covers what is wanted, the mask of the place has its needs
  pub needs_behind : PassesBehind tree place (λ rest. Covers rest wanted) number
      → IsWithin needs (place_at tree place).below
  needs_behind passes =
      over (place_at tree place).below
      (λ k d within. needs_there passes.rest (get_or wanted k d) passes.held (passes.passes k d within))

  -- where it does so with the atom of a branch to the place, each mask has its needs that has all of both
  pub needs_of_branch : (atom : PlainKeyAtom) (mask : ℕ) → IsWithin (gives_of atom) mask
      → IsWithin (place_at tree place).below mask → PassesBehind tree place (λ rest. Covers (atom ∷ rest) wanted) number
      → IsWithin needs mask
  needs_of_branch atom mask own behind passes =
      over mask
      (λ k d within.
      let b : PlainKeyAtom = get_or wanted k d in
      elim (Any-cases (λ a. Implies a b) atom passes.rest (passes.passes k d within)) [
        | inl implied ↦ within_more (needs_of b) (gives_of atom) mask (prints.gives atom b implied) own
        | inr later ↦ within_more (needs_of b) (place_at tree place).below mask
            (needs_there passes.rest b passes.held later) behind
      ])

-- a walk that looks nowhere takes no step
pub visits_none : (May : ℕ → Type 0) (each steps : ℕ) → Visits May each steps steps
unfolding IsDistinct
visits_none May each steps = record { seen = []; once = tt; may = All-nil May; cost = omega arith }

-- what a walk found that began with the number of the very key, it found
pub found_from_own : (tree : PlainTree) (asked : List PlainKeyAtom) (bound own found : ℕ) → own ≤ bound
    → (own ≡ bound) ⊎ Holds tree asked own → IsLeastFound tree 0 (λ rest. Covers rest asked) own found
    → IsLeastFound tree 0 (λ rest. Covers rest asked) bound found
found_from_own tree asked bound own found le begun walked =
    found_from_start tree 0 (λ rest. Covers rest asked) bound own found le
    (elim begun [
      | inl is ↦ inl is
      | inr held ↦ inr (record {
        rest = asked;
        held = subst (λ (way : List PlainKeyAtom). Holds tree (way ++ asked) own) (sym (way_to_root tree)) held;
        passes = Covers-itself asked;
      })
    ]) walked
