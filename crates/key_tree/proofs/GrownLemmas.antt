-- The branches and the places of a tree to which a chain is joined, by their numbers.
use Rattle.std.proofs.Common.{◌≡◌, ℕ, ◌+◌, ◌<◌, List, ◌∷◌, ◌++◌, length, get_or, set, ap, sym, ◌∙◌, arith}
use Rattle.std.proofs.lemmas.List.{length-set, get_or-set_same, get_or-set_other, length-append, get_or_append_left, get_or-append-add}
use Rattle.lin_model.specs.KeyAtom.{PlainKeyAtom}
use Rattle.key_tree.specs.declared.branch.Branch.{Branch}
use Rattle.key_tree.specs.Places.{PlainPlace, no_place, with_kid}
use Rattle.key_tree.specs.Prints.{gives_of}
use Rattle.key_tree.specs.Tree.{PlainTree, IsTree, place_at, branch_to, no_branch}
use Rattle.key_tree.specs.Growth.{chain_kid, branches_of_chain, places_of_chain}
use Rattle.key_tree.proofs.ChainLemmas.{length_branches, length_places}

-- the branches, and those of the chain
abbrev pub grown_branches : PlainTree → ℕ → List PlainKeyAtom → ℕ → List Branch
grown_branches tree front atoms number =
    tree.branches ++ branches_of_chain front (length tree.places) atoms number

-- the places with a kid for the first atom at the place where the chain begins, and those of the chain
abbrev pub grown_places : PlainTree → ℕ → ℕ → PlainKeyAtom → List PlainKeyAtom → ℕ → List PlainPlace
grown_places tree front at first atoms number =
    set tree.places front (with_kid at (chain_kid (length tree.places) first number) (gives_of first) (place_at tree front))
    ++ places_of_chain (length tree.places) atoms number

module _ (old : PlainTree) (front : ℕ) (atoms : List PlainKeyAtom) (number : ℕ) (keeps : IsTree old) where
  -- the branches of the chain
  abbrev chain : List Branch
  chain = branches_of_chain front (length old.places) atoms number

  -- there is one branch more for each atom
  pub length_grown_branches : length (grown_branches old front atoms number) + 1 ≡ length old.places + length atoms
  length_grown_branches =
      omega (arith, length-append old.branches chain, length_branches front (length old.places) atoms number, keeps.sized)

  -- old branches stay
  pub branch_stays : (p : ℕ) → p < length old.places
      → get_or (no_branch ∷ grown_branches old front atoms number) p no_branch ≡ branch_to old p
  branch_stays p lt =
      get_or_append_left (no_branch ∷ old.branches) chain no_branch p (omega (arith, keeps.sized))

  -- those of the chain come behind them
  pub branch_comes : (j : ℕ) → get_or (no_branch ∷ grown_branches old front atoms number) (length old.places + j) no_branch
      ≡ get_or chain j no_branch
  branch_comes j =
      let e : length old.places + j ≡ length (no_branch ∷ old.branches) + j = omega (arith, keeps.sized) in
      ap (λ (i : ℕ). get_or ((no_branch ∷ old.branches) ++ chain) i no_branch) e
      ∙ get_or-append-add (no_branch ∷ old.branches) chain j no_branch

module _ (old : PlainTree) (front at : ℕ) (first : PlainKeyAtom) (atoms : List PlainKeyAtom) (number : ℕ)
    (within : front < length old.places) where
  -- the places of the chain
  abbrev links : List PlainPlace
  links = places_of_chain (length old.places) atoms number

  -- the place where it begins, with its kid
  abbrev more : PlainPlace
  more = with_kid at (chain_kid (length old.places) first number) (gives_of first) (place_at old front)

  -- the old places with that one
  abbrev changed : List PlainPlace
  changed = set old.places front more

  -- they are as many
  length_changed : length changed ≡ length old.places
  length_changed = length-set old.places front more

  -- there is one place more for each atom
  pub length_grown : length (grown_places old front at first atoms number) ≡ length old.places + length atoms
  length_grown =
      omega (arith, length-append changed links, length_changed, length_places (length old.places) atoms number)

  -- old places stay, but for the one where the chain begins
  pub place_stays : (p : ℕ) → p < length old.places → (p ≡ front → ⊥)
      → get_or (grown_places old front at first atoms number) p no_place ≡ place_at old p
  place_stays p lt other =
      get_or_append_left changed links no_place p (omega (arith, length_changed))
      ∙ get_or-set_other old.places front p more no_place other

  -- that has one kid more
  pub place_changes : get_or (grown_places old front at first atoms number) front no_place ≡ more
  place_changes =
      get_or_append_left changed links no_place front (omega (arith, length_changed, within))
      ∙ get_or-set_same old.places front more no_place within

  -- new places come behind them
  pub place_comes : (j : ℕ)
      → get_or (grown_places old front at first atoms number) (length old.places + j) no_place ≡ get_or links j no_place
  place_comes j =
      ap (λ (n : ℕ). get_or (changed ++ links) (n + j) no_place) (sym length_changed)
      ∙ get_or-append-add changed links j no_place
