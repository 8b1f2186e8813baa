-- A key that has a place comes to be held there.
use Rattle.std.proofs.Common.{◌≡◌, ℕ, ◌<◌, ◌^◌, List, [], ◌∷◌, ◌++◌, length, get_or, set, inl, inr}
use Rattle.std.proofs.Common.{ap, sym, subst, ◌∙◌, refl, arith}
use Rattle.std.specs.List.{All}
use Rattle.std.proofs.lemmas.Bool.{cases_eq}
use Rattle.std.proofs.lemmas.List.{length-set, get_or-set_same, get_or-set_other, map_push}
use Rattle.std.proofs.lemmas.List.Elements.{All-push}
use Rattle.key_tree.specs.declared.held.Held.{Held}
use Rattle.key_tree.specs.declared.kid.Kid.{Kid}
use Rattle.key_tree.specs.Places.{PlainPlace, no_place, with_number}
use Rattle.key_tree.specs.Prints.{gives_of, IsWithin}
use Rattle.key_tree.specs.Tree.{PlainTree, Pair, IsTree, HasParent, IsNumbered, IsMasked, AreKidsOf, AreMasksOf, way_to, place_at, branch_to, pairs_of}
use Rattle.key_tree.proofs.PairLemmas.{AddsPair, kids_stay, number_stays, number_new, least_stays}
use Rattle.key_tree.proofs.PlaceLemmas.{ways_apart}
use Rattle.key_tree.proofs.KidMaskLemmas.{masks_stay}

-- the tree in which the way to a place came to be held
abbrev pub holding : PlainTree → ℕ → ℕ → PlainTree
holding tree place number = record {
  branches = tree.branches;
  places = set tree.places place (with_number number (place_at tree place));
  held = tree.held ++ record { place = place; number = number } ∷ [];
}

-- it is a tree
module _ (tree : PlainTree) (place number : ℕ) (keeps : IsTree tree) (within : place < length tree.places)
    (small : number < 2 ^ 32) (later : All (λ p. p.number < number) (pairs_of tree)) where
  -- the place as it is now
  abbrev changed : PlainPlace
  changed = with_number number (place_at tree place)

  -- there are as many places
  length_held : length (holding tree place number).places ≡ length tree.places
  length_held = length-set tree.places place changed

  -- the place changed
  there : place_at (holding tree place number) place ≡ changed
  there = get_or-set_same tree.places place changed no_place within

  -- no other did
  elsewhere : (p : ℕ) → (p ≡ place → ⊥) → place_at (holding tree place number) p ≡ place_at tree p
  elsewhere p other = get_or-set_other tree.places place p changed no_place other

  -- kids are as they were
  kids_same : (p : ℕ) → (place_at (holding tree place number) p).kids ≡ (place_at tree p).kids
  kids_same p = elim (cases_eq p place) [
    | inl same ↦ subst (λ (q : ℕ). (place_at (holding tree place number) q).kids ≡ (place_at tree q).kids) (sym same)
        (ap (λ (q : PlainPlace). q.kids) there)
    | inr other ↦ ap (λ (q : PlainPlace). q.kids) (elsewhere p other)
  ]

  -- masks are as they were
  below_same : (p : ℕ) → (place_at (holding tree place number) p).below ≡ (place_at tree p).below
  below_same p = elim (cases_eq p place) [
    | inl same ↦ subst (λ (q : ℕ). (place_at (holding tree place number) q).below ≡ (place_at tree q).below) (sym same)
        (ap (λ (q : PlainPlace). q.below) there)
    | inr other ↦ ap (λ (q : PlainPlace). q.below) (elsewhere p other)
  ]

  -- those of kids too
  masks_same : (p : ℕ) → (place_at (holding tree place number) p).masks ≡ (place_at tree p).masks
  masks_same p = elim (cases_eq p place) [
    | inl same ↦ subst (λ (q : ℕ). (place_at (holding tree place number) q).masks ≡ (place_at tree q).masks) (sym same)
        (ap (λ (q : PlainPlace). q.masks) there)
    | inr other ↦ ap (λ (q : PlainPlace). q.masks) (elsewhere p other)
  ]

  -- one pair more is held
  pub pairs_held : pairs_of (holding tree place number)
      ≡ pairs_of tree ++ record { key = way_to tree place; number = number } ∷ []
  pairs_held =
      map_push (λ (h : Held). let p : Pair = record { key = way_to tree h.place; number = h.number } in p) tree.held
      (record { place = place; number = number })

  -- nothing else changed for old places
  adds_pair : AddsPair tree (holding tree place number) (way_to tree place) number
  adds_pair = record {
    older = omega (arith, length_held);
    way = λ p _. refl;
    branch = λ p _. refl;
    pairs = pairs_held;
    later = later;
  }

  -- numbers are right
  numbered_held : (p : ℕ) → p < length tree.places → IsNumbered (holding tree place number) p
  numbered_held p lt = elim (cases_eq p place) [
    | inl same ↦ subst (λ (q : ℕ). IsNumbered (holding tree place number) q) (sym same)
        (number_new tree (holding tree place number) (way_to tree place) number adds_pair place within
        (ap (λ (q : PlainPlace). q.number) there) refl (keeps.numbered place within))
    | inr other ↦ number_stays tree (holding tree place number) (way_to tree place) number adds_pair p lt
        (ap (λ (q : PlainPlace). q.number) (elsewhere p other))
        (λ e. other (sym (ways_apart tree keeps place p within lt e))) (keeps.numbered p lt)
  ]

  -- kids are right
  kids_held : (p : ℕ) → p < length tree.places
      → AreKidsOf (holding tree place number) p (place_at (holding tree place number) p).kids
  kids_held p lt =
      subst (λ (kids : List Kid). AreKidsOf (holding tree place number) p kids) (sym (kids_same p))
      (kids_stay tree (holding tree place number) (way_to tree place) number adds_pair p (place_at tree p).kids
      (keeps.kids p lt))

  -- each place has its parent
  parent_held : (p : ℕ) → 0 < p → p < length tree.places → HasParent (holding tree place number) p
  parent_held p some lt =
      let parent = keeps.parents p some lt in
      let from : ℕ = (branch_to tree p).from in
      record {
        older = parent.older;
        at = parent.at;
        within = subst (λ (kids : List Kid). parent.at < length kids) (sym (kids_same from)) parent.within;
        is = λ d. subst (λ (kids : List Kid). (get_or kids parent.at d).place ≡ p) (sym (kids_same from)) (parent.is d);
      }

  -- masks are right
  masked_held : (p : ℕ) → 0 < p → p < length tree.places → IsMasked (holding tree place number) p
  masked_held p some lt =
      let from : ℕ = (branch_to tree p).from in
      let mask = keeps.masked p some lt in
      record {
        atom = subst (λ (m : ℕ). IsWithin (gives_of (branch_to tree p).atom) m) (sym (below_same from)) mask.atom;
        behind = subst (λ (m : ℕ). IsWithin m (place_at (holding tree place number) from).below) (sym (below_same p))
            (subst (λ (m : ℕ). IsWithin (place_at tree p).below m) (sym (below_same from)) mask.behind);
      }

  -- those of kids are right
  masks_held : (p : ℕ) → p < length tree.places → AreMasksOf (holding tree place number)
      (place_at (holding tree place number) p).kids (place_at (holding tree place number) p).masks
  masks_held p lt =
      subst (λ (kids : List Kid). AreMasksOf (holding tree place number) kids (place_at (holding tree place number) p).masks)
      (sym (kids_same p))
      (subst (λ (masks : List ℕ). AreMasksOf (holding tree place number) (place_at tree p).kids masks) (sym (masks_same p))
      (masks_stay tree (holding tree place number) (place_at tree p).kids (place_at tree p).masks (keeps.masks p lt)
      (λ k d _. below_same (get_or (place_at tree p).kids k d).place) (λ k d _. refl)))

  -- so it is a tree
  pub holding_is_tree : IsTree (holding tree place number)
  holding_is_tree = record {
    sized = length_held ∙ keeps.sized;
    kids = λ p lt. kids_held p (omega (arith, length_held, lt));
    parents = λ p some lt. parent_held p some (omega (arith, length_held, lt));
    numbered = λ p lt. numbered_held p (omega (arith, length_held, lt));
    least = λ p some lt. let old : p < length tree.places = omega (arith, length_held, lt) in
        least_stays tree (holding tree place number) (way_to tree place) number adds_pair p old (keeps.least p some old);
    masked = λ p some lt. masked_held p some (omega (arith, length_held, lt));
    masks = λ p lt. masks_held p (omega (arith, length_held, lt));
    held = subst (λ (n : ℕ). All (λ h. h.place < n) (holding tree place number).held) (sym length_held)
        (All-push (λ (h : Held). h.place < length tree.places) tree.held (record { place = place; number = number })
        keeps.held within);
    numbers = All-push (λ (h : Held). h.number < 2 ^ 32) tree.held (record { place = place; number = number })
        keeps.numbers small;
    few = omega (arith, length_held, keeps.few);
  }

-- the tree of these places and of what is held is the one in which the way came to be held
pub holding_is : (tree : PlainTree) (place number : ℕ) (places : List PlainPlace) (held : List Held)
    → places ≡ set tree.places place (with_number number (place_at tree place))
    → held ≡ tree.held ++ record { place = place; number = number } ∷ [] → IsTree (holding tree place number)
    → IsTree (record { branches = tree.branches; places = places; held = held })
holding_is tree place number places held places_are held_is is =
    subst (λ (ps : List PlainPlace). IsTree (record { branches = tree.branches; places = ps; held = held })) (sym places_are)
    (subst (λ (hs : List Held). IsTree (record {
      branches = tree.branches;
      places = set tree.places place (with_number number (place_at tree place));
      held = hs;
    })) (sym held_is) is)
