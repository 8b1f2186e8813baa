-- Chains of branches and places.
use Rattle.std.proofs.Common.{◌≡◌, ℕ, zero, suc, ◌+◌, ◌-◌, ◌<◌, ◌≤◌, Some, None, List, [], ◌∷◌, ◌++◌, length, get_or, take, drop}
use Rattle.std.proofs.Common.{ap, sym, ◌∙◌, refl, arith, drop-cons, add-one, length-drop}
use Rattle.std.proofs.lemmas.List.{append_assoc, append-nil, take_all}
use Rattle.std.proofs.Math.ListN.{drop_of_length-le}
use Rattle.lin_model.specs.KeyAtom.{PlainKeyAtom}
use Rattle.key_tree.specs.declared.branch.Branch.{Branch}
use Rattle.key_tree.specs.Places.{PlainPlace}
use Rattle.key_tree.specs.Prints.{gives_of}
use Rattle.key_tree.specs.Tree.{no_branch}
use Rattle.key_tree.specs.Growth.{chain_kid, branches_of_chain, places_of_chain, place_before_chain}

-- what a slice to the end has
pub slice_to_end : (atoms : List PlainKeyAtom) (i : ℕ) → take (length atoms - i) (drop i atoms) ≡ drop i atoms
slice_to_end atoms i = take_all (length atoms - i) (drop i atoms) (omega (arith, length-drop i atoms))

-- what is left of the atoms begins with the one that is read
pub left_of_atoms : (atoms : List PlainKeyAtom) (count : ℕ) (atom : PlainKeyAtom) → count < length atoms
    → atom ≡ get_or atoms count atom → drop count atoms ≡ atom ∷ drop (count + 1) atoms
left_of_atoms atoms count atom lt is =
    let e : drop count atoms ≡ get_or atoms count atom ∷ drop (count + 1) atoms =
    rw (add-one, drop-cons atoms count atom) in
    e ∙ ap (λ (a : PlainKeyAtom). a ∷ drop (count + 1) atoms) (sym is)

-- one branch more is written
pub branch_written : (branches whole : List Branch) (from next count number : ℕ) (atoms : List PlainKeyAtom)
    (atom : PlainKeyAtom) → count < length atoms → atom ≡ get_or atoms count atom
    → branches ++ branches_of_chain from (next + count) (drop count atoms) number ≡ whole
    → (branches ++ record { from = from; atom = atom; least = number } ∷ [])
    ++ branches_of_chain (next + count) (next + (count + 1)) (drop (count + 1) atoms) number ≡ whole
unfolding branches_of_chain
branch_written branches whole from next count number atoms atom lt is so_far =
    let b : Branch = record { from = from; atom = atom; least = number } in
    let e : next + (count + 1) ≡ next + count + 1 = omega arith in
    append_assoc branches (b ∷ []) (branches_of_chain (next + count) (next + (count + 1)) (drop (count + 1) atoms) number)
    ∙ (ap (λ (n : ℕ). branches ++ b ∷ branches_of_chain (next + count) n (drop (count + 1) atoms) number) e
    ∙ (ap (λ (left : List PlainKeyAtom). branches ++ branches_of_chain from (next + count) left number)
    (sym (left_of_atoms atoms count atom lt is)) ∙ so_far))

-- all are written
pub branches_written : (branches whole : List Branch) (from next count number : ℕ) (atoms : List PlainKeyAtom)
    → length atoms ≤ count → branches ++ branches_of_chain from next (drop count atoms) number ≡ whole
    → branches ≡ whole
unfolding branches_of_chain
branches_written branches whole from next count number atoms le so_far =
    sym (append-nil branches)
    ∙ (ap (λ (left : List PlainKeyAtom). branches ++ branches_of_chain from next left number)
    (sym (drop_of_length-le atoms le)) ∙ so_far)

-- one place more is written
pub place_written : (places whole : List PlainPlace) (next count number : ℕ) (atoms : List PlainKeyAtom)
    (place : PlainPlace) → count < length atoms
    → place ≡ place_before_chain (next + count + 1) (drop (count + 1) atoms) number
    → places ++ places_of_chain (next + count) (drop count atoms) number ≡ whole
    → (places ++ place ∷ []) ++ places_of_chain (next + (count + 1)) (drop (count + 1) atoms) number ≡ whole
unfolding places_of_chain
place_written places whole next count number atoms place lt is so_far =
    let e : next + (count + 1) ≡ next + count + 1 = omega arith in
    let rest : List PlainPlace = places_of_chain (next + count + 1) (drop (count + 1) atoms) number in
    let left : drop count atoms ≡ get_or atoms count (no_branch).atom ∷ drop (count + 1) atoms =
    rw (add-one, drop-cons atoms count (no_branch).atom) in
    append_assoc places (place ∷ []) (places_of_chain (next + (count + 1)) (drop (count + 1) atoms) number)
    ∙ (ap (λ (n : ℕ). places ++ place ∷ places_of_chain n (drop (count + 1) atoms) number) e
    ∙ (ap (λ (p : PlainPlace). places ++ p ∷ rest) is
    ∙ (ap (λ (left : List PlainKeyAtom). places ++ places_of_chain (next + count) left number) (sym left) ∙ so_far)))

-- all are written
pub places_written : (places whole : List PlainPlace) (next count number : ℕ) (atoms : List PlainKeyAtom)
    → length atoms ≤ count → places ++ places_of_chain next (drop count atoms) number ≡ whole → places ≡ whole
unfolding places_of_chain
places_written places whole next count number atoms le so_far =
    sym (append-nil places)
    ∙ (ap (λ (left : List PlainKeyAtom). places ++ places_of_chain next left number)
    (sym (drop_of_length-le atoms le)) ∙ so_far)

-- there is a branch for each atom
pub length_branches : (from next : ℕ) (atoms : List PlainKeyAtom) (number : ℕ)
    → length (branches_of_chain from next atoms number) ≡ length atoms
unfolding branches_of_chain
length_branches from next [] number = refl
length_branches from next (a ∷ atoms) number =
    ap (λ (n : ℕ). suc n) (length_branches next (next + 1) atoms number)

-- and a place
pub length_places : (next : ℕ) (atoms : List PlainKeyAtom) (number : ℕ)
    → length (places_of_chain next atoms number) ≡ length atoms
unfolding places_of_chain
length_places next [] number = refl
length_places next (a ∷ atoms) number = ap (λ (n : ℕ). suc n) (length_places (next + 1) atoms number)

-- each branch has its atom and the number
pub branch_atom : (from next : ℕ) (atoms : List PlainKeyAtom) (number j : ℕ) (d : Branch) (e : PlainKeyAtom)
    → j < length atoms → (get_or (branches_of_chain from next atoms number) j d).atom ≡ get_or atoms j e
unfolding branches_of_chain
branch_atom from next [] number j d e lt = absurd (omega (arith, lt))
branch_atom from next (a ∷ atoms) number zero d e lt = refl
branch_atom from next (a ∷ atoms) number (suc j) d e lt = branch_atom next (next + 1) atoms number j d e (omega arith)

-- each branch has the number
pub branch_least : (from next : ℕ) (atoms : List PlainKeyAtom) (number j : ℕ) (d : Branch)
    → j < length atoms → (get_or (branches_of_chain from next atoms number) j d).least ≡ number
unfolding branches_of_chain
branch_least from next [] number j d lt = absurd (omega (arith, lt))
branch_least from next (a ∷ atoms) number zero d lt = refl
branch_least from next (a ∷ atoms) number (suc j) d lt = branch_least next (next + 1) atoms number j d (omega arith)

-- the first comes from the place where the chain begins
pub branch_first : (from next : ℕ) (atoms : List PlainKeyAtom) (number : ℕ) (d : Branch)
    → 0 < length atoms → (get_or (branches_of_chain from next atoms number) 0 d).from ≡ from
unfolding branches_of_chain
branch_first from next [] number d lt = absurd (omega (arith, lt))
branch_first from next (a ∷ atoms) number d lt = refl

-- each other from the place before
pub branch_from : (from next : ℕ) (atoms : List PlainKeyAtom) (number j : ℕ) (d : Branch)
    → suc j < length atoms → (get_or (branches_of_chain from next atoms number) (suc j) d).from ≡ next + j
unfolding branches_of_chain
branch_from from next [] number j d lt = absurd (omega (arith, lt))
branch_from from next (a ∷ atoms) number zero d lt =
    branch_first next (next + 1) atoms number d (omega arith) ∙ (omega arith)
branch_from from next (a ∷ atoms) number (suc j) d lt =
    branch_from next (next + 1) atoms number j d (omega arith) ∙ (omega arith)

-- each place but the last has one kid, and no number
pub place_links : (next : ℕ) (atoms : List PlainKeyAtom) (number j : ℕ) (d : PlainPlace) (e : PlainKeyAtom)
    → j + 1 < length atoms → get_or (places_of_chain next atoms number) j d
    ≡ record { kids = chain_kid (next + (j + 1)) (get_or atoms (j + 1) e) number ∷ []; masks = gives_of (get_or atoms (j + 1) e) ∷ []; number = None; below = 0 }
unfolding places_of_chain
place_links next [] number j d e lt = absurd (omega (arith, lt))
place_links next (a ∷ []) number j d e lt = absurd (omega (arith, lt))
place_links next (a ∷ b ∷ atoms) number zero d e lt = refl
place_links next (a ∷ b ∷ atoms) number (suc j) d e lt =
    let same : next + 1 + (j + 1) ≡ next + (suc j + 1) = omega arith in
    let at : j + 1 ≡ suc j = omega arith in
    let more : suc j + 1 ≡ suc (suc j) = omega arith in
    place_links (next + 1) (b ∷ atoms) number j d e (omega arith)
    ∙ (ap (λ (n : ℕ). record { kids = chain_kid n (get_or (b ∷ atoms) (j + 1) e) number ∷ []; masks = gives_of (get_or (b ∷ atoms) (j + 1) e) ∷ []; number = None; below = 0 }) same
    ∙ (ap (λ (i : ℕ). record { kids = chain_kid (next + (suc j + 1)) (get_or (b ∷ atoms) i e) number ∷ []; masks = gives_of (get_or (b ∷ atoms) i e) ∷ []; number = None; below = 0 }) at
    ∙ ap (λ (i : ℕ). record { kids = chain_kid (next + (suc j + 1)) (get_or (a ∷ b ∷ atoms) i e) number ∷ []; masks = gives_of (get_or (a ∷ b ∷ atoms) i e) ∷ []; number = None; below = 0 }) (sym more)))

-- the last has the number, and no kid
pub place_last : (next : ℕ) (atoms : List PlainKeyAtom) (number j : ℕ) (d : PlainPlace) → j + 1 ≡ length atoms
    → get_or (places_of_chain next atoms number) j d ≡ record { kids = []; masks = []; number = Some number; below = 0 }
unfolding places_of_chain
place_last next [] number j d is = absurd (omega (arith, is))
place_last next (a ∷ []) number zero d is = refl
place_last next (a ∷ []) number (suc j) d is = absurd (omega (arith, is))
place_last next (a ∷ b ∷ atoms) number zero d is = absurd (omega (arith, is))
place_last next (a ∷ b ∷ atoms) number (suc j) d is = place_last (next + 1) (b ∷ atoms) number j d (omega arith)
