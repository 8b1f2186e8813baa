-- A loop of a walk over the kids of a place, as they were read.
use Rattle.std.proofs.Common.{◌≡◌, ℕ, ◌+◌, ◌<◌, ◌≤◌, List, ◌∷◌, length, get_or, arith, ap, subst}
use Rattle.key_tree.specs.declared.kid.Kid.{Kid}
use Rattle.key_tree.specs.Tree.{PlainTree, IsTree, place_at, branch_to}
use Rattle.key_tree.specs.Walks.{Sought, Meets, IsLeastFound, IsLeastSoFar, IsAtOrBehind, IsBehind, IsBehindFirst, Visits}
use Rattle.key_tree.specs.Laws.{WalksGoOn, VisitsGoOn}

module _ (tree : PlainTree) (place : ℕ) (kids : List Kid) (k : ℕ) (tree_is : IsTree tree)
    (within : place < length tree.places) (is : kids ≡ (place_at tree place).kids) where
  module _ (d : Kid) (lt : k < length kids) where
    -- there is this kid
    inside : k < length (place_at tree place).kids
    inside = omega (arith, lt, ap (λ (ks : List Kid). length ks) is)

    -- one kid more: what was found
    pub found_more : WalksGoOn → (sought : Sought) (before found better : ℕ)
        → IsLeastSoFar tree place (Meets sought) k before found
        → IsLeastFound tree (get_or kids k d).place
        (λ rest. Meets sought ((branch_to tree (get_or kids k d).place).atom ∷ rest)) found better
        → IsLeastSoFar tree place (Meets sought) (k + 1) before better
    found_more go_on sought before found better so_far least =
        go_on.more tree place k before found better d sought tree_is within inside so_far
        (subst (λ (ks : List Kid). IsLeastFound tree (get_or ks k d).place
        (λ rest. Meets sought ((branch_to tree (get_or ks k d).place).atom ∷ rest)) found better) is least)

    -- and the steps that it took
    pub visits_more : VisitsGoOn → (each before mid after : ℕ) → Visits (IsBehindFirst tree place k) each before mid
        → Visits (IsAtOrBehind tree (get_or kids k d).place) each mid after
        → Visits (IsBehindFirst tree place (k + 1)) each before after
    visits_more go_on each before mid after so_far more =
        go_on.more tree place k each before mid after d tree_is within inside so_far
        (subst (λ (ks : List Kid). Visits (IsAtOrBehind tree (get_or ks k d).place) each mid after) is more)

  module _ (low : length kids ≤ k) (high : k ≤ length kids) where
    -- these are all kids
    all_kids : k ≡ length (place_at tree place).kids
    all_kids = omega (arith, low, high, ap (λ (ks : List Kid). length ks) is)

    -- after the last kid: what was found
    pub found_all : WalksGoOn → (sought : Sought) (before found : ℕ)
        → IsLeastSoFar tree place (Meets sought) k before found → IsLeastFound tree place (Meets sought) before found
    found_all go_on sought before found so_far =
        go_on.done tree place before found sought tree_is within
        (subst (λ (n : ℕ). IsLeastSoFar tree place (Meets sought) n before found) all_kids so_far)

    -- and the steps that it took
    pub visits_all : VisitsGoOn → (each before after : ℕ) → Visits (IsBehindFirst tree place k) each before after
        → Visits (IsBehind tree place) each before after
    visits_all go_on each before after so_far =
        go_on.done tree place each before after tree_is within
        (subst (λ (n : ℕ). Visits (IsBehindFirst tree place n) each before after) all_kids so_far)
