-- Prefixes of keys: they have one number, and in a tree each has a place besides the root.
use Rattle.std.proofs.Common.{◌≡◌, ℕ, zero, suc, ◌+◌, ◌<◌, ◌≤◌, List, [], ◌∷◌, ◌++◌, length, get_or, drop, refl, sym, ap}
use Rattle.std.proofs.Common.{subst, ◌∙◌, arith}
use Rattle.std.specs.List.{Any, Contains}
use Rattle.std.proofs.Math.Nat.{le_antisymm}
use Rattle.std.proofs.lemmas.List.{get_or-drop, length-drop, length_push, get_or_default}
use Rattle.std.proofs.lemmas.List.Elements.{Contains-get_or}
use Rattle.lin_model.specs.KeyAtom.{PlainKeyAtom}
use Rattle.key_tree.specs.Held.{HavePrefixes, BeginsWith}
use Rattle.key_tree.specs.Tree.{PlainTree, Pair, IsTree, way_to, ways_from, branch_to, pairs_of}
use Rattle.key_tree.specs.Laws.{PrefixesAreCounted}
use Rattle.key_tree.proofs.ListLemmas.{few_within}
use Rattle.key_tree.proofs.WayLemmas.{way_to_root, length-ways_from}
use Rattle.key_tree.proofs.PlaceLemmas.{Reaches, way_of, ways_apart, root_within, front_reaches, held_reaches}

-- of two lists of all prefixes the first is at most as long as the second
no_more : (pairs : List Pair) (m n : ℕ) → HavePrefixes pairs m → HavePrefixes pairs n → m ≤ n
no_more pairs m n these those =
    let few = few_within these.prefixes those.prefixes [] (λ i j before within.
    these.once i j before (omega (arith, within, these.counted)))
    (λ k d within.
    let is = these.each_is k d within in
    those.all (get_or these.prefixes k d) is.0 is.1) in
    omega (arith, few, these.counted, those.counted)

-- the law
pub prefixes_counted : PrefixesAreCounted
prefixes_counted pairs m n these those = le_antisymm (no_more pairs m n these those) (no_more pairs n m those these)

module _ (tree : PlainTree) (keeps : IsTree tree) where
  -- the ways to all places but the root
  abbrev prefixes_of : List (List PlainKeyAtom)
  prefixes_of = drop 1 (ways_from ([] ∷ []) tree.branches)

  -- there are as many as branches
  prefixes_length : length prefixes_of ≡ length tree.branches
  prefixes_length =
      let size = length-ways_from ([] ∷ []) tree.branches in
      omega (arith, length-drop 1 (ways_from ([] ∷ []) tree.branches))

  -- each is the way to the next place
  prefix_at : (k : ℕ) → get_or prefixes_of k [] ≡ way_to tree (suc k)
  prefix_at k =
      get_or-drop 1 (ways_from ([] ∷ []) tree.branches) k []
      ∙ ap (λ (n : ℕ). way_to tree n) (omega arith)

  -- which there is
  is_place : (k : ℕ) → k < length prefixes_of → suc k < length tree.places
  is_place k within = omega (arith, prefixes_length, keeps.sized)

  -- what is held at or behind a place begins with its way
  begins : (p : ℕ) → 0 < p → p < length tree.places
      → Any (λ pair. BeginsWith pair.key (way_to tree p)) (pairs_of tree)
  begins p some within =
      let least = keeps.least p some within in
      let pair : Pair =
      record { key = way_to tree p ++ least.rest; number = (branch_to tree p).least } in
      (least.held.0, pair, least.held.1, least.held.2, record { rest = least.rest; is = refl })

  -- the way to a place but the root is not empty
  some_way : (p : ℕ) → 0 < p → p < length tree.places → 0 < length (way_to tree p)
  some_way p some within =
      subst (λ (way : List PlainKeyAtom). 0 < length way) (sym (way_of tree keeps p some within))
      (some_length (way_to tree (branch_to tree p).from) (branch_to tree p).atom)
    where
      some_length : (way : List PlainKeyAtom) (a : PlainKeyAtom) → 0 < length (way ++ a ∷ [])
      some_length way a = omega (arith, length_push way a)

  -- a prefix of a key is the way to a place
  leads : (prefix : List PlainKeyAtom) (pair : Pair) → Contains (pairs_of tree) pair → BeginsWith pair.key prefix
      → Reaches tree prefix
  leads prefix pair held front =
      let at = held_reaches tree keeps pair.key pair.number held in
      let root : (way : List PlainKeyAtom) → way_to tree 0 ++ way ≡ way =
      λ way. ap (λ (first : List PlainKeyAtom). first ++ way) (way_to_root tree) in
      let end = front_reaches tree keeps prefix front.rest at.place 0 at.within (root_within tree keeps)
      (at.is ∙ (front.is ∙ sym (root (prefix ++ front.rest)))) in
      record { place = end.place; within = end.within; is = end.is ∙ root prefix }

  -- the ways to places are among them
  contains_way : (p : ℕ) (prefix : List PlainKeyAtom) → p < length tree.places → way_to tree p ≡ prefix
      → 0 < length prefix → Contains prefixes_of prefix
  contains_way zero prefix within is some =
      absurd (omega (arith, ap (λ (way : List PlainKeyAtom). length way) (sym (way_to_root tree) ∙ is)))
  contains_way (suc k) prefix within is some =
      let below : k < length prefixes_of = omega (arith, prefixes_length, keeps.sized) in
      subst (λ (way : List PlainKeyAtom). Contains prefixes_of way) (prefix_at k ∙ is)
      (Contains-get_or prefixes_of k [] below)

  -- they are the prefixes of the keys that are held
  pub tree_prefixes : (nodes : ℕ) → nodes + 1 ≡ length tree.places → HavePrefixes (pairs_of tree) nodes
  tree_prefixes nodes is = record {
    prefixes = prefixes_of;
    counted = omega (arith, prefixes_length, keeps.sized);
    once = λ i j before within same.
        let those : suc j < length tree.places = omega arith in
        let e : suc i ≡ suc j = ways_apart tree keeps (suc i) (suc j) (omega arith) those
        (sym (prefix_at i) ∙ (same ∙ prefix_at j)) in
        omega arith;
    each_is = λ k d within.
        subst (λ (way : List PlainKeyAtom). (0 < length way) × Any (λ pair. BeginsWith pair.key way) (pairs_of tree))
        (sym (get_or_default prefixes_of k d [] within ∙ prefix_at k))
        (some_way (suc k) (omega arith) (is_place k within), begins (suc k) (omega arith) (is_place k within));
    all = λ prefix some behind.
        let end = leads prefix behind.1 (behind.0, behind.2, behind.3) behind.4 in
        contains_way end.place prefix end.within end.is some;
  }

-- the same of a tree that equals one that keeps the rules
pub same_prefixes : (view tree : PlainTree) (nodes : ℕ) → IsTree view → view ≡ tree
    → nodes + 1 ≡ length tree.places → HavePrefixes (pairs_of tree) nodes
same_prefixes view tree nodes keeps same =
    tree_prefixes tree (subst (λ (t : PlainTree). IsTree t) same keeps) nodes
