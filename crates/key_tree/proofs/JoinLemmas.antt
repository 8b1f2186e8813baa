-- A chain that became part of a tree, where a key had only a front in it.
use Rattle.std.proofs.Common.{◌≡◌, ℕ, ◌+◌, ◌<◌, ◌^◌, List, [], ◌∷◌, ◌++◌, length, get_or, set, drop}
use Rattle.std.proofs.Common.{ap, sym, subst, ◌∙◌, arith, length-drop}
use Rattle.std.specs.List.{All}
use Rattle.std.proofs.lemmas.List.{get_or_default, get_or-drop, take-append-drop}
use Rattle.lin_model.specs.KeyAtom.{PlainKeyAtom}
use Rattle.key_tree.specs.declared.branch.Branch.{Branch}
use Rattle.key_tree.specs.declared.front.Front.{Front}
use Rattle.key_tree.specs.declared.held.Held.{Held}
use Rattle.key_tree.specs.declared.kid.Kid.{Kid}
use Rattle.key_tree.specs.Places.{PlainPlace, with_kid}
use Rattle.key_tree.specs.Prints.{gives_of}
use Rattle.key_tree.specs.Tree.{PlainTree, IsTree, way_to, place_at, no_branch, pairs_of}
use Rattle.key_tree.specs.Growth.{IsFront, IsPositionFor, IsChain, MayWiden, AreSameButMasks, AreMasked, chain_kid, branches_of_chain, places_of_chain}
use Rattle.key_tree.proofs.GrownLemmas.{grown_branches, grown_places}
use Rattle.key_tree.proofs.GrownWays.{Grew}
use Rattle.key_tree.proofs.WidenStart.{may_widen}

-- the chain of what is left of the key joined the tree
pub record Joined (old : PlainTree) (key left : List PlainKeyAtom) (front : Front) (next number : ℕ)
    (more : List Branch) (links : List PlainPlace) (kid : Kid) (gives : ℕ) (held : Held) (branches : List Branch)
    (places : List PlainPlace) : Type 0 where
  pub keeps : IsTree old
  pub is_front : IsFront old key front
  pub short : front.len < length key
  pub later : All (λ p. p.number < number) (pairs_of old)
  pub small : number < 2 ^ 32
  pub left_is : left ≡ drop front.len key
  pub next_is : next ≡ length old.places
  pub chain : IsChain front.place next left number more links kid gives held
  pub branches_are : branches ≡ old.branches ++ more
  pub places_are : places ≡ set old.places front.place (with_kid front.at kid gives (place_at old front.place)) ++ links

module _ (old : PlainTree) (key left : List PlainKeyAtom) (front : Front) (next number : ℕ)
    (more : List Branch) (links : List PlainPlace) (kid : Kid) (gives : ℕ) (held : Held) (branches : List Branch)
    (places : List PlainPlace) (j : Joined old key left front next number more links kid gives held branches places) where
  -- the first atom that is left
  abbrev pub first : PlainKeyAtom
  first = get_or left 0 (no_branch).atom

  -- some atom is left
  some_left : 0 < length left
  some_left =
      let e : length left ≡ length (drop front.len key) = ap (λ (atoms : List PlainKeyAtom). length atoms) j.left_is in
      omega (arith, e, length-drop front.len key, j.short)

  -- it is the next of the key
  first_in_key : get_or key front.len (no_branch).atom ≡ first
  first_in_key =
      let e : front.len ≡ front.len + 0 = omega arith in
      ap (λ (i : ℕ). get_or key i (no_branch).atom) e
      ∙ (sym (get_or-drop front.len key 0 (no_branch).atom)
      ∙ ap (λ (atoms : List PlainKeyAtom). get_or atoms 0 (no_branch).atom) (sym j.left_is))

  -- the kid for it belongs at the position of the front
  position : IsPositionFor old front.place front.at first
  position =
      subst (λ (a : PlainKeyAtom). IsPositionFor old front.place front.at a) first_in_key
      (j.is_front.next (no_branch).atom j.short)

  -- the key is the front and what is left
  key_parts : key ≡ way_to old front.place ++ left
  key_parts =
      sym (take-append-drop front.len key)
      ∙ (ap (λ (atoms : List PlainKeyAtom). atoms ++ drop front.len key) (sym j.is_front.way)
      ∙ ap (λ (atoms : List PlainKeyAtom). way_to old front.place ++ atoms) (sym j.left_is))

  -- the branches are those of a tree that grew
  branches_grown : branches ≡ grown_branches old front.place left number
  branches_grown =
      j.branches_are
      ∙ (ap (λ (bs : List Branch). old.branches ++ bs) j.chain.branches_are
      ∙ ap (λ (n : ℕ). old.branches ++ branches_of_chain front.place n left number) j.next_is)

  -- the places too
  places_grown : places ≡ grown_places old front.place front.at first left number
  places_grown =
      let kid_is : kid ≡ chain_kid (length old.places) first number =
      j.chain.kid_is (no_branch).atom ∙ ap (λ (n : ℕ). chain_kid n first number) j.next_is in
      let links_are : links ≡ places_of_chain (length old.places) left number =
      j.chain.places_are ∙ ap (λ (n : ℕ). places_of_chain n left number) j.next_is in
      j.places_are
      ∙ (ap (λ (k : Kid). set old.places front.place (with_kid front.at k gives (place_at old front.place)) ++ links) kid_is
      ∙ (ap (λ (m : ℕ). set old.places front.place
      (with_kid front.at (chain_kid (length old.places) first number) m (place_at old front.place)) ++ links)
      (j.chain.gives_is (no_branch).atom)
      ∙ ap (λ (ps : List PlainPlace). set old.places front.place
      (with_kid front.at (chain_kid (length old.places) first number) (gives_of first) (place_at old front.place)) ++ ps)
      links_are))

  -- the last place has the last number
  last_is : held.place + 1 ≡ length old.places + length left
  last_is = omega (arith, j.chain.last_is, j.next_is)

  -- masks may be widened
  pub joined_may_widen : MayWiden branches places held.place
  joined_may_widen =
      subst (λ (bs : List Branch). MayWiden bs places held.place) (sym branches_grown)
      (subst (λ (ps : List PlainPlace). MayWiden
      (grown_branches old front.place left number) ps held.place) (sym places_grown)
      (may_widen old front.place front.at first left held.place number j.keeps j.is_front.within some_left last_is
      position.within (get_or_default left 0 (no_branch).atom first some_left)))

  -- and then the tree grew
  pub joined_grew : (wide : List PlainPlace) (pairs : List Held) → AreSameButMasks places wide → AreMasked branches wide
      → pairs ≡ old.held ++ held ∷ []
      → Grew old (record { branches = branches; places = wide; held = pairs }) key left first front.place front.at
      held.place number
  joined_grew wide pairs same masked pairs_are = record {
    keeps = j.keeps;
    within = j.is_front.within;
    key_is = key_parts;
    some = some_left;
    first_is = get_or_default left 0 (no_branch).atom first some_left;
    position = position;
    later = j.later;
    small = j.small;
    last_is = last_is;
    few = omega (arith, j.chain.few, j.next_is);
    branches = branches_grown;
    same = subst (λ (ps : List PlainPlace). AreSameButMasks ps wide) places_grown same;
    held = pairs_are ∙ ap (λ (n : ℕ). old.held ++ record { place = held.place; number = n } ∷ []) j.chain.number_is;
    masked = masked;
  }
