-- A tree that grew by a chain of new places: its branches, the ways to its places, and what is held.
use Rattle.std.proofs.Common.{◌≡◌, ℕ, zero, suc, ◌+◌, ◌-◌, ◌<◌, ◌≤◌, ◌^◌, List, [], ◌∷◌, ◌++◌, length, get_or, take, drop, inl, inr}
use Rattle.std.proofs.Common.{map, ap, sym, subst, ◌∙◌, refl, arith}
use Rattle.std.specs.List.{All}
use Rattle.std.proofs.lemmas.Bool.{cases_lt}
use Rattle.std.proofs.lemmas.List.{map_push, append_assoc, append_cancel_left, take_more, take_all, length-take}
use Rattle.lin_model.specs.KeyAtom.{PlainKeyAtom}
use Rattle.key_tree.specs.declared.branch.Branch.{Branch}
use Rattle.key_tree.specs.declared.held.Held.{Held}
use Rattle.key_tree.specs.Tree.{PlainTree, Pair, IsTree, Holds, way_to, ways_from, branch_to, no_branch, pairs_of}
use Rattle.key_tree.specs.Walks.{kid_atom}
use Rattle.key_tree.specs.Growth.{IsPositionFor, branches_of_chain, AreSameButMasks, AreMasked}
use Rattle.key_tree.proofs.ChainLemmas.{left_of_atoms, branch_atom, branch_least, branch_first, branch_from}
use Rattle.key_tree.proofs.GrownLemmas.{grown_branches, grown_places, branch_stays, branch_comes, length_grown, length_grown_branches}
use Rattle.key_tree.proofs.WayLemmas.{way_to_place, old_ways_stay}
use Rattle.key_tree.proofs.PlaceLemmas.{HasKid, not_before_itself, kid_on_way, held_reaches, no_kid}
use Rattle.key_tree.proofs.PairLemmas.{AddsPair}

-- the tree grew by a chain of these atoms behind a place
pub record Grew (old new : PlainTree) (key atoms : List PlainKeyAtom) (first : PlainKeyAtom) (front at last number : ℕ)
    : Type 0 where
  pub keeps : IsTree old
  pub within : front < length old.places
  pub key_is : key ≡ way_to old front ++ atoms
  pub some : 0 < length atoms
  pub first_is : first ≡ get_or atoms 0 first
  pub position : IsPositionFor old front at first
  pub later : All (λ p. p.number < number) (pairs_of old)
  pub small : number < 2 ^ 32
  pub last_is : last + 1 ≡ length old.places + length atoms
  pub few : length old.places + length atoms ≤ 2 ^ 32
  pub branches : new.branches ≡ grown_branches old front atoms number
  pub same : AreSameButMasks (grown_places old front at first atoms number) new.places
  pub held : new.held ≡ old.held ++ record { place = last; number = number } ∷ []
  pub masked : AreMasked new.branches new.places

module _ {old new : PlainTree} {key atoms : List PlainKeyAtom} {first : PlainKeyAtom} {front at last number : ℕ}
    (g : Grew old new key atoms first front at last number) where
  -- how many places there were
  abbrev count : ℕ
  count = length old.places

  -- the branches of the chain
  abbrev chain : List Branch
  chain = branches_of_chain front count atoms number

  -- there is one place more for each atom
  pub length_new : length new.places ≡ count + length atoms
  length_new = g.same.counts ∙ length_grown old front at first atoms number g.within

  -- there is one place more than branches
  pub sized_new : length new.places ≡ length new.branches + 1
  sized_new =
      let e : length new.branches ≡ length (grown_branches old front atoms number) =
      ap (λ (bs : List Branch). length bs) g.branches in
      omega (arith, length_new, e, length_grown_branches old front atoms number g.keeps)

  -- old branches stay
  pub branch_old : (p : ℕ) → p < count → branch_to new p ≡ branch_to old p
  branch_old p lt =
      ap (λ (bs : List Branch). get_or (no_branch ∷ bs) p no_branch) g.branches
      ∙ branch_stays old front atoms number g.keeps p lt

  -- those of the chain come behind them
  branch_new : (j : ℕ) → branch_to new (count + j) ≡ get_or chain j no_branch
  branch_new j =
      ap (λ (bs : List Branch). get_or (no_branch ∷ bs) (count + j) no_branch) g.branches
      ∙ branch_comes old front atoms number g.keeps j

  -- each has its atom
  pub atom_new : (j : ℕ) (d : PlainKeyAtom) → j < length atoms → (branch_to new (count + j)).atom ≡ get_or atoms j d
  atom_new j d lt =
      ap (λ (b : Branch). b.atom) (branch_new j) ∙ branch_atom front count atoms number j no_branch d lt

  -- and the number
  pub least_new : (j : ℕ) → j < length atoms → (branch_to new (count + j)).least ≡ number
  least_new j lt = ap (λ (b : Branch). b.least) (branch_new j) ∙ branch_least front count atoms number j no_branch lt

  -- the first comes from the place where the chain begins
  pub from_first : (branch_to new (count + 0)).from ≡ front
  from_first = ap (λ (b : Branch). b.from) (branch_new 0) ∙ branch_first front count atoms number no_branch g.some

  -- each other from the new place before
  pub from_next : (j : ℕ) → suc j < length atoms → (branch_to new (count + suc j)).from ≡ count + j
  from_next j lt = ap (λ (b : Branch). b.from) (branch_new (suc j)) ∙ branch_from front count atoms number j no_branch lt

  -- old ways stay
  way_old : (p : ℕ) → p < count → way_to new p ≡ way_to old p
  way_old p lt =
      ap (λ (bs : List Branch). get_or (ways_from ([] ∷ []) bs) p []) g.branches
      ∙ old_ways_stay old.branches chain p (omega (arith, g.keeps.sized))

  -- new ones lead along the atoms
  pub way_new : (j : ℕ) → j < length atoms → way_to new (count + j) ≡ way_to old front ++ take (j + 1) atoms
  way_new zero lt =
      let fit : count + 0 ≤ length new.branches = omega (arith, sized_new, length_new) in
      let some : 0 < count + 0 = omega (arith, g.keeps.sized) in
      let older : (branch_to new (count + 0)).from < count + 0 = omega (arith, from_first, g.within) in
      way_to_place new (count + 0) some fit older
      ∙ (ap (λ (p : ℕ). way_to new p ++ (branch_to new (count + 0)).atom ∷ []) from_first
      ∙ (ap (λ (way : List PlainKeyAtom). way ++ (branch_to new (count + 0)).atom ∷ []) (way_old front g.within)
      ∙ (ap (λ (a : PlainKeyAtom). way_to old front ++ a ∷ []) (atom_new 0 first lt)
      ∙ ap (λ (left : List PlainKeyAtom). way_to old front ++ left) (sym (take_more atoms 0 first lt)))))
  way_new (suc j) lt =
      let fit : count + suc j ≤ length new.branches = omega (arith, sized_new, length_new) in
      let some : 0 < count + suc j = omega arith in
      let older : (branch_to new (count + suc j)).from < count + suc j = omega (arith, from_next j lt) in
      way_to_place new (count + suc j) some fit older
      ∙ (ap (λ (p : ℕ). way_to new p ++ (branch_to new (count + suc j)).atom ∷ []) (from_next j lt)
      ∙ (ap (λ (way : List PlainKeyAtom). way ++ (branch_to new (count + suc j)).atom ∷ []) (way_new j (omega arith))
      ∙ (ap (λ (a : PlainKeyAtom). (way_to old front ++ take (j + 1) atoms) ++ a ∷ []) (atom_new (suc j) first lt)
      ∙ (append_assoc (way_to old front) (take (j + 1) atoms) (get_or atoms (suc j) first ∷ [])
      ∙ ap (λ (left : List PlainKeyAtom). way_to old front ++ left) (one_more j lt)))))
    where
      one_more : (j : ℕ) → suc j < length atoms
          → take (j + 1) atoms ++ get_or atoms (suc j) first ∷ [] ≡ take (suc j + 1) atoms
      one_more j lt =
          let e : suc j ≡ j + 1 = omega arith in
          ap (λ (i : ℕ). take i atoms ++ get_or atoms (suc j) first ∷ []) (sym e)
          ∙ sym (take_more atoms (suc j) first lt)

  -- the first atom, and what is behind it
  abbrev others : List PlainKeyAtom
  others = drop 1 atoms

  -- the atoms are those two
  atoms_are : atoms ≡ first ∷ others
  atoms_are = left_of_atoms atoms 0 first g.some g.first_is

  -- so each front of them begins with the first
  front_more : (j : ℕ) → take (j + 1) atoms ≡ first ∷ take j others
  front_more j =
      let e : j + 1 ≡ suc j = omega arith in
      ap (λ (left : List PlainKeyAtom). take (j + 1) left) atoms_are
      ∙ ap (λ (i : ℕ). take i (first ∷ others)) e

  -- no kid had the first atom
  no_kid_had : HasKid old front first → ⊥
  no_kid_had has = elim (cases_lt has.kid at) [
    | inl before ↦ not_before_itself (kid_atom old front has.kid no_kid) first (has.is no_kid)
        (g.position.before has.kid no_kid before)
    | inr behind ↦ not_before_itself first (kid_atom old front has.kid no_kid) (sym (has.is no_kid))
        (g.position.behind has.kid no_kid behind has.within)
  ]

  -- so no old way goes along it
  no_way_had : (p : ℕ) (more : List PlainKeyAtom) → p < count → way_to old p ≡ way_to old front ++ first ∷ more → ⊥
  no_way_had p more lt e = no_kid_had (kid_on_way old g.keeps p front first more lt g.within e)

  -- nor was a key held that goes along it
  pub none_held : (more : List PlainKeyAtom) (n : ℕ) → Holds old (way_to old front ++ first ∷ more) n → ⊥
  none_held more n held =
      let reach = held_reaches old g.keeps (way_to old front ++ first ∷ more) n held in
      no_way_had reach.place more reach.within reach.is

  -- the key goes along it
  key_goes : key ≡ way_to old front ++ first ∷ others
  key_goes = g.key_is ∙ ap (λ (left : List PlainKeyAtom). way_to old front ++ left) atoms_are

  -- so it was the way to no place
  pub key_is_new : (p : ℕ) → p < count → key ≡ way_to old p → ⊥
  key_is_new p lt e = no_way_had p others lt (sym e ∙ key_goes)

  -- a new way goes along it
  pub way_goes : (j : ℕ) (more : List PlainKeyAtom) → j < length atoms
      → way_to new (count + j) ++ more ≡ way_to old front ++ first ∷ (take j others ++ more)
  way_goes j more lt =
      ap (λ (way : List PlainKeyAtom). way ++ more) (way_new j lt)
      ∙ (ap (λ (left : List PlainKeyAtom). (way_to old front ++ left) ++ more) (front_more j)
      ∙ append_assoc (way_to old front) (first ∷ take j others) more)

  -- the way to the last place is the key
  pub way_last : (j : ℕ) → j + 1 ≡ length atoms → way_to new (count + j) ≡ key
  way_last j is =
      way_new j (omega arith)
      ∙ (ap (λ (left : List PlainKeyAtom). way_to old front ++ left) (take_all (j + 1) atoms (omega arith)) ∙ sym g.key_is)

  -- and no other
  pub way_short : (j : ℕ) → j + 1 < length atoms → key ≡ way_to new (count + j) → ⊥
  way_short j lt e =
      let same : atoms ≡ take (j + 1) atoms =
      append_cancel_left (way_to old front) atoms (take (j + 1) atoms) (sym g.key_is ∙ (e ∙ way_new j (omega arith))) in
      let sizes : length atoms ≡ length (take (j + 1) atoms) = ap (λ (left : List PlainKeyAtom). length left) same in
      omega (arith, sizes, length-take (j + 1) atoms)

  -- what is held
  abbrev pair_in : PlainTree → Held → Pair
  pair_in tree h = record { key = way_to tree h.place; number = h.number }

  -- what was held is held under the same key
  pairs_stay : (hs : List Held) → All (λ h. h.place < count) hs
      → map (λ (h : Held). pair_in new h) hs ≡ map (λ (h : Held). pair_in old h) hs
  pairs_stay [] all = refl
  pairs_stay (h ∷ hs) all =
      ap (λ (p : Pair). p ∷ map (λ (h : Held). pair_in new h) hs)
      (ap (λ (way : List PlainKeyAtom). let p : Pair = record { key = way; number = h.number } in p)
      (way_old h.place (all 0 h (omega arith))))
      ∙ ap (λ (ps : List Pair). pair_in old h ∷ ps) (pairs_stay hs (λ k d lt. all (suc k) d (omega arith)))

  -- the new key leads to the last place
  last_way : way_to new last ≡ key
  last_way =
      let e : count + (length atoms - 1) ≡ last = omega (arith, g.some, g.last_is) in
      subst (λ (p : ℕ). way_to new p ≡ key) e (way_last (length atoms - 1) (omega (arith, g.some)))

  -- so one pair more is held
  pub pairs_new : pairs_of new ≡ pairs_of old ++ record { key = key; number = number } ∷ []
  pairs_new =
      ap (λ (hs : List Held). map (λ (h : Held). pair_in new h) hs) g.held
      ∙ (map_push (λ (h : Held). pair_in new h) old.held (record { place = last; number = number })
      ∙ (ap (λ (ps : List Pair). ps ++ record { key = way_to new last; number = number } ∷ [])
      (pairs_stay old.held g.keeps.held)
      ∙ ap (λ (way : List PlainKeyAtom). pairs_of old ++ record { key = way; number = number } ∷ []) last_way))

  -- what was held and all old branches stay
  pub adds : AddsPair old new key number
  adds = record {
    older = omega (arith, length_new);
    way = way_old;
    branch = branch_old;
    pairs = pairs_new;
    later = g.later;
  }
