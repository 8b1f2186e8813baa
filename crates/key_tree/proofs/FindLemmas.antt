-- The number under which a key itself is held.
use Rattle.std.proofs.Common.{◌≡◌, ℕ, ◌+◌, ◌<◌, ◌≤◌, ◌∙◌, List, ◌∷◌, ◌++◌, Option, Some, None, length, drop, get_or}
use Rattle.std.proofs.Common.{inl, inr, refl, sym, ap, subst}
use Rattle.std.specs.Prelude.{Contains, IsSomeAnd, IfSome}
use Rattle.std.proofs.lemmas.Bool.{cases_lt}
use Rattle.std.proofs.lemmas.List.{take-append-drop, take_all, drop_more, get_or_default}
use Rattle.lin_model.specs.KeyAtom.{PlainKeyAtom}
use Rattle.key_tree.specs.declared.front.Front.{Front}
use Rattle.key_tree.specs.Tree.{PlainTree, Pair, IsTree, Holds, way_to, place_at, pairs_of, no_branch}
use Rattle.key_tree.specs.Held.{IsLeastOf}
use Rattle.key_tree.specs.Walks.{kid_atom}
use Rattle.key_tree.specs.Growth.{IsFront, IsPositionFor}
use Rattle.key_tree.proofs.PlaceLemmas.{HasKid, no_kid, not_before_itself, kid_on_way, held_reaches}

-- what stands at a place is contained
there : (pairs : List Pair) (k : ℕ) (d : Pair) → k < length pairs → Contains pairs (get_or pairs k d)
there pairs k d lt = (k, lt, get_or_default pairs k (get_or pairs k d) d lt)

-- no kid has an atom that belongs between kids
no_kid_for : (tree : PlainTree) (place at : ℕ) (atom : PlainKeyAtom) → IsPositionFor tree place at atom
    → ¬ HasKid tree place atom
no_kid_for tree place at atom position has = elim (cases_lt has.kid at) [
  | inl before ↦
      not_before_itself (kid_atom tree place has.kid no_kid) atom (has.is no_kid)
      (position.before has.kid no_kid before)
  | inr behind ↦
      not_before_itself atom (kid_atom tree place has.kid no_kid) (sym (has.is no_kid))
      (position.behind has.kid no_kid behind has.within)
]

module _ (tree : PlainTree) (keeps : IsTree tree) (key : List PlainKeyAtom) (front : Front)
    (is_front : IsFront tree key front) where
  -- the atom behind the front
  abbrev next : PlainKeyAtom
  next = get_or key front.len (no_branch).atom

  -- a key is the way to the front's place, that atom, and others
  key_parts : front.len < length key → key ≡ way_to tree front.place ++ next ∷ drop (front.len + 1) key
  key_parts more =
      sym (take-append-drop front.len key)
      ∙ (ap (λ (way : List PlainKeyAtom). way ++ drop front.len key) (sym is_front.way)
      ∙ ap (λ (rest : List PlainKeyAtom). way_to tree front.place ++ rest) (drop_more key front.len (no_branch).atom more))

  -- where the front is short, the key isn't held
  pub not_held : front.len < length key → (n : ℕ) → ¬ Holds tree key n
  not_held more n holds =
      let reached = held_reaches tree keeps key n holds in
      no_kid_for tree front.place front.at next (is_front.next (no_branch).atom more)
      (kid_on_way tree keeps reached.place front.place next (drop (front.len + 1) key) reached.within is_front.within
      (reached.is ∙ key_parts more))

  -- a pair of the key is one under which it is held
  holds_of : (k : ℕ) (d : Pair) → k < length (pairs_of tree) → (get_or (pairs_of tree) k d).key ≡ key
      → Holds tree key (get_or (pairs_of tree) k d).number
  holds_of k d lt same =
      subst (λ (a : List PlainKeyAtom). Holds tree a (get_or (pairs_of tree) k d).number) same (there (pairs_of tree) k d lt)

  -- so there is none to find
  pub none_found : front.len < length key → IsLeastOf (λ held. held ≡ key) (pairs_of tree) None
  none_found more k d lt same = not_held more (get_or (pairs_of tree) k d).number (holds_of k d lt same)

  -- where the front is the whole key, it is the way to the place
  whole : length key ≤ front.len → way_to tree front.place ≡ key
  whole all = is_front.way ∙ take_all front.len key all

  -- and the number of the place is the least under which the key is held
  number_found : (o : Option ℕ) → o ≡ (place_at tree front.place).number → length key ≤ front.len
      → IfSome o (λ n. Holds tree key n) → ((n : ℕ) → Holds tree key n → IsSomeAnd o (λ m. m ≤ n))
      → IsLeastOf (λ held. held ≡ key) (pairs_of tree) o
  number_found None is all held least = λ k d lt same. least (get_or (pairs_of tree) k d).number (holds_of k d lt same)
  number_found (Some m) is all (k, lt, at) least = record {
    here = (k, record { key = key; number = m }, lt, at, (refl, refl));
    least = λ j d within same. least (get_or (pairs_of tree) j d).number (holds_of j d within same);
  }

  pub found : (o : Option ℕ) → o ≡ (place_at tree front.place).number → length key ≤ front.len
      → IsLeastOf (λ held. held ≡ key) (pairs_of tree) o
  found o is all =
      let numbered = keeps.numbered front.place is_front.within in
      let way = whole all in
      number_found o is all
      (subst (λ (p : Option ℕ). IfSome p (λ n. Holds tree key n)) (sym is)
      (subst (λ (a : List PlainKeyAtom). IfSome (place_at tree front.place).number (λ n. Holds tree a n)) way numbered.held))
      (λ n holds. subst (λ (p : Option ℕ). IsSomeAnd p (λ m. m ≤ n)) (sym is)
      (numbered.least n (subst (λ (a : List PlainKeyAtom). Holds tree a n) (sym way) holds)))
