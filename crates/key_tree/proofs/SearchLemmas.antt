-- A binary search among the kids of a place.
use Rattle.std.proofs.Common.{◌≡◌, ℕ, ◌+◌, ◌<◌, ◌≤◌, List, length, get_or, inl, inr, sym, ap, subst, ◌∙◌, arith}
use Rattle.std.specs.declared.cmp.Ordering.TheVariants.{Less, Equal, Greater}
use Rattle.std.specs.Ordering.{ordering_reverse}
use Rattle.std.proofs.lemmas.List.{get_or_default}
use Rattle.lin_model.specs.KeyAtom.{PlainKeyAtom}
use Rattle.lin_model.specs.AtomOrder.{compare_atoms, IsAtomOrder}
use Rattle.lin_model.specs.Lists.{below_or_last}
use Rattle.key_tree.specs.declared.kid.Kid.{Kid}
use Rattle.key_tree.specs.Tree.{PlainTree, IsTree, place_at, branch_to}
use Rattle.key_tree.specs.Walks.{kid_atom}
use Rattle.key_tree.specs.Growth.{IsKidFor, IsPositionFor}

-- the kid for the atom, or its position, lies between two numbers
pub record IsBetween (tree : PlainTree) (place low high : ℕ) (atom : PlainKeyAtom) : Type 0 where
  pub ordered : low ≤ high
  pub within : high ≤ length (place_at tree place).kids
  pub before : (j : ℕ) (d : Kid) → j < low → compare_atoms (kid_atom tree place j d) atom ≡ Less
  pub behind : (j : ℕ) (d : Kid) → high ≤ j → j < length (place_at tree place).kids
      → compare_atoms atom (kid_atom tree place j d) ≡ Less

-- before the search it lies anywhere
pub anywhere : (tree : PlainTree) (place n : ℕ) (atom : PlainKeyAtom) → n ≡ length (place_at tree place).kids
    → IsBetween tree place 0 n atom
anywhere tree place n atom is = record {
  ordered = omega arith;
  within = omega arith;
  before = λ j d lt. absurd (omega arith);
  behind = λ j d le lt. absurd (omega arith);
}

-- a kid's atom doesn't depend on what stands for a missing kid
pub same_atom : (tree : PlainTree) (place k : ℕ) (d e : Kid) → k < length (place_at tree place).kids
    → kid_atom tree place k d ≡ kid_atom tree place k e
same_atom tree place k d e lt =
    ap (λ (kid : Kid). (branch_to tree kid.place).atom) (get_or_default (place_at tree place).kids k d e lt)

-- it lies behind a kid whose atom comes before
pub behind_middle : (tree : PlainTree) (place low high mid : ℕ) (atom other : PlainKeyAtom) (e : Kid) → IsAtomOrder
    → IsTree tree → place < length tree.places → IsBetween tree place low high atom → mid < high
    → low ≤ mid → other ≡ kid_atom tree place mid e → compare_atoms other atom ≡ Less
    → IsBetween tree place (mid + 1) high atom
behind_middle tree place low high mid atom other e order is within between lt le same less =
    let small : mid < length (place_at tree place).kids = omega (arith, between.within) in
    let here : (d : Kid) → compare_atoms (kid_atom tree place mid d) atom ≡ Less =
    λ d. subst (λ (a : PlainKeyAtom). compare_atoms a atom ≡ Less) (same ∙ same_atom tree place mid e d small) less in
    record {
      ordered = omega arith;
      within = between.within;
      before = λ j d below. elim (below_or_last j mid below) [
        | inl lower ↦ order.total.trans (kid_atom tree place j d) (kid_atom tree place mid d) atom
            ((is.kids place within).ascend j mid d d lower small) (here d)
        | inr last ↦ subst (λ (i : ℕ). compare_atoms (kid_atom tree place i d) atom ≡ Less) (sym last) (here d)
      ];
      behind = between.behind;
    }

-- and not behind one whose atom comes after
pub before_middle : (tree : PlainTree) (place low high mid : ℕ) (atom other : PlainKeyAtom) (e : Kid) → IsAtomOrder
    → IsTree tree → place < length tree.places → IsBetween tree place low high atom → mid < high
    → low ≤ mid → other ≡ kid_atom tree place mid e → compare_atoms other atom ≡ Greater
    → IsBetween tree place low mid atom
before_middle tree place low high mid atom other e order is within between lt le same greater =
    let small : mid < length (place_at tree place).kids = omega (arith, between.within) in
    let here : (d : Kid) → compare_atoms atom (kid_atom tree place mid d) ≡ Less =
    λ d. subst (λ (a : PlainKeyAtom). compare_atoms atom a ≡ Less) (same ∙ same_atom tree place mid e d small)
    (order.total.antisymm atom other ∙ ap ordering_reverse greater) in
    record {
      ordered = omega arith;
      within = omega arith;
      before = between.before;
      behind = λ j d above below. elim (below_or_last mid j (omega arith)) [
        | inl higher ↦ order.total.trans atom (kid_atom tree place mid d) (kid_atom tree place j d)
            (here d) ((is.kids place within).ascend mid j d d higher below)
        | inr last ↦ subst (λ (i : ℕ). compare_atoms atom (kid_atom tree place i d) ≡ Less) last (here d)
      ];
    }

-- a kid whose atom is equal in the order is the one
pub at_middle : (tree : PlainTree) (place mid : ℕ) (atom other : PlainKeyAtom) (e : Kid) → IsAtomOrder
    → mid < length (place_at tree place).kids → other ≡ kid_atom tree place mid e → compare_atoms other atom ≡ Equal
    → IsKidFor tree place mid atom
at_middle tree place mid atom other e order small same equal = record {
  within = small;
  is = λ d. same_atom tree place mid d e small ∙ (sym same ∙ order.apart other atom equal);
}

-- where nothing is left, the position is found
pub position_found : (tree : PlainTree) (place low high : ℕ) (atom : PlainKeyAtom)
    → IsBetween tree place low high atom → high ≤ low → IsPositionFor tree place low atom
position_found tree place low high atom between le = record {
  within = omega (arith, between.ordered, between.within);
  before = between.before;
  behind = λ j d above below. between.behind j d (omega (arith, between.ordered)) below;
}

-- a kid's place is behind the root
pub kid_is_some : (tree : PlainTree) (place k : ℕ) (kids : List Kid) (d : Kid) → IsTree tree → place < length tree.places
    → kids ≡ (place_at tree place).kids → k < length kids → 0 < (get_or kids k d).place
kid_is_some tree place k kids d is within same lt =
    subst (λ (ks : List Kid). 0 < (get_or ks k d).place) (sym same)
    ((is.kids place within).kids_are k d (subst (λ (ks : List Kid). k < length ks) same lt)).tells.some

-- and within the tree
pub kid_is_within : (tree : PlainTree) (place k : ℕ) (kids : List Kid) (d : Kid) → IsTree tree
    → place < length tree.places → kids ≡ (place_at tree place).kids → k < length kids
    → (get_or kids k d).place < length tree.places
kid_is_within tree place k kids d is within same lt =
    subst (λ (ks : List Kid). (get_or ks k d).place < length tree.places) (sym same)
    ((is.kids place within).kids_are k d (subst (λ (ks : List Kid). k < length ks) same lt)).tells.within
