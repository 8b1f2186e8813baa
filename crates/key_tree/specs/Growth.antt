-- How a tree of keys grows.
use Rattle.std.specs.Prelude.{◌≡◌, ℕ, ◌+◌, ◌^◌, ◌<◌, ◌≤◌, Some, None, List, [], ◌∷◌, length, take, slice_index_or}
use Rattle.std.specs.declared.cmp.Ordering.TheVariants.{Less}
use Rattle.lin_model.specs.KeyAtom.{PlainKeyAtom}
use Rattle.lin_model.specs.AtomOrder.{compare_atoms}
use Rattle.key_tree.specs.declared.branch.Branch.{Branch}
use Rattle.key_tree.specs.declared.held.Held.{Held}
use Rattle.key_tree.specs.declared.kid.Kid.{Kid}
use Rattle.key_tree.specs.declared.front.Front.{Front}
use Rattle.key_tree.specs.Places.{PlainPlace, no_place, AreApart}
use Rattle.key_tree.specs.Prints.{hash_of, gives_of, IsWithin}
use Rattle.key_tree.specs.Tree.{PlainTree, AreMasksOf, way_to, place_at, branch_to}
use Rattle.key_tree.specs.Walks.{kid_atom}

-- this kid of the place has the atom
pub record IsKidFor (tree : PlainTree) (place k : ℕ) (atom : PlainKeyAtom) : Type 0 where
  pub within : k < length (place_at tree place).kids
  pub is : (d : Kid) → kid_atom tree place k d ≡ atom

-- a kid of the place for the atom belongs at this position: those before come before the atom, all others behind it
pub record IsPositionFor (tree : PlainTree) (place k : ℕ) (atom : PlainKeyAtom) : Type 0 where
  pub within : k ≤ length (place_at tree place).kids
  pub before : (j : ℕ) (d : Kid) → j < k → compare_atoms (kid_atom tree place j d) atom ≡ Less
  pub behind : (j : ℕ) (d : Kid) → k ≤ j → j < length (place_at tree place).kids
      → compare_atoms atom (kid_atom tree place j d) ≡ Less

-- a front of the atoms is the way to a place, and no kid of the place has the next atom
pub record IsFront (tree : PlainTree) (atoms : List PlainKeyAtom) (front : Front) : Type 0 where
  pub within : front.place < length tree.places
  pub short : front.len ≤ length atoms
  pub way : way_to tree front.place ≡ take front.len atoms
  pub next : (d : PlainKeyAtom) → front.len < length atoms
      → IsPositionFor tree front.place front.at (slice_index_or atoms front.len d)

-- the kid for a branch by this atom to this place, behind which nothing but this number is held
abbrev pub chain_kid : ℕ → PlainKeyAtom → ℕ → Kid
chain_kid place atom number = record { place = place; least = number; hash = hash_of atom.form }

-- the branches by these atoms, one behind the other, to the places from `next` on
unfoldable pub branches_of_chain : ℕ → ℕ → List PlainKeyAtom → ℕ → List Branch
branches_of_chain from next [] number = []
branches_of_chain from next (a ∷ atoms) number =
    record { from = from; atom = a; least = number } ∷ branches_of_chain next (next + 1) atoms number

-- the place where they begin
abbrev pub place_before_chain : ℕ → List PlainKeyAtom → ℕ → PlainPlace
place_before_chain next [] number = record { kids = []; masks = []; number = Some number; below = 0 }
place_before_chain next (a ∷ atoms) number =
    record { kids = chain_kid next a number ∷ []; masks = gives_of a ∷ []; number = None; below = 0 }

-- the places to which they lead
unfoldable pub places_of_chain : ℕ → List PlainKeyAtom → ℕ → List PlainPlace
places_of_chain next [] number = []
places_of_chain next (a ∷ atoms) number =
    place_before_chain (next + 1) atoms number ∷ places_of_chain (next + 1) atoms number

-- a chain from a place, of places from `next` on, behind the last of which a key comes to be held
pub record IsChain (from next : ℕ) (atoms : List PlainKeyAtom) (number : ℕ) (branches : List Branch)
    (places : List PlainPlace) (kid : Kid) (gives : ℕ) (held : Held) : Type 0 where
  pub branches_are : branches ≡ branches_of_chain from next atoms number
  pub places_are : places ≡ places_of_chain next atoms number
  pub kid_is : (d : PlainKeyAtom) → kid ≡ chain_kid next (slice_index_or atoms 0 d) number
  pub gives_is : (d : PlainKeyAtom) → gives ≡ gives_of (slice_index_or atoms 0 d)
  pub last_is : held.place + 1 ≡ next + length atoms
  pub few : next + length atoms ≤ 2 ^ 32
  pub number_is : held.number ≡ number

-- the tree of these branches and places, where nothing is held
abbrev pub bare : List Branch → List PlainPlace → PlainTree
bare branches places = record { branches = branches; places = places; held = [] }

-- the mask of the place before has all of the place's own mask
abbrev pub IsBehindMasked : PlainTree → ℕ → Type 0
IsBehindMasked tree place =
    IsWithin (place_at tree place).below (place_at tree (branch_to tree place).from).below

-- the mask of the place before has all that the branch's atom gives
abbrev pub IsAtomMasked : PlainTree → ℕ → Type 0
IsAtomMasked tree place =
    IsWithin (gives_of (branch_to tree place).atom) (place_at tree (branch_to tree place).from).below

-- each kid's mask has all that its atom gives, and all of the mask of its place
abbrev pub AreKidsMasked : PlainTree → ℕ → Type 0
AreKidsMasked tree place = AreMasksOf tree (place_at tree place).kids (place_at tree place).masks

-- a place that isn't the root, to which a branch leads from this place
pub record LeadsFrom (branches : List Branch) (place kid : ℕ) : Type 0 where
  pub some : 0 < kid
  pub from : (branch_to (bare branches []) kid).from ≡ place

-- masks are right but for the atoms on the way to the last place, of which the new ones are a chain from place `next` on
pub record MayWiden (branches : List Branch) (places : List PlainPlace) (last : ℕ) : Type 0 where
  pub sized : length places ≡ length branches + 1
  pub is_last : last + 1 ≡ length places
  pub older : (p : ℕ) → 0 < p → p < length places → (branch_to (bare branches places) p).from < p
  pub next : ℕ
  pub chain : (p : ℕ) → next < p → p < length places → (branch_to (bare branches places) p).from + 1 ≡ p
  pub atoms : (p : ℕ) → 0 < p → p < next → p < length places → IsAtomMasked (bare branches places) p
  pub behind : (p : ℕ) → 0 < p → p < length places → IsBehindMasked (bare branches places) p
  pub kids : (p : ℕ) → p < length places → AreKidsMasked (bare branches places) p
  pub leads : (p k : ℕ) (d : Kid) → p < length places → k < length (slice_index_or places p no_place).kids
      → LeadsFrom branches p (slice_index_or (slice_index_or places p no_place).kids k d).place
  pub apart : (p : ℕ) → p < length places → AreApart (slice_index_or places p no_place).kids

-- all masks are right
pub record AreMasked (branches : List Branch) (places : List PlainPlace) : Type 0 where
  pub atoms : (p : ℕ) → 0 < p → p < length places → IsAtomMasked (bare branches places) p
  pub behind : (p : ℕ) → 0 < p → p < length places → IsBehindMasked (bare branches places) p
  pub kids : (p : ℕ) → p < length places → AreKidsMasked (bare branches places) p

-- places are the same but for their masks
pub record AreSameButMasks (olds news : List PlainPlace) : Type 0 where
  pub counts : length news ≡ length olds
  pub kids : (p : ℕ) → (slice_index_or news p no_place).kids ≡ (slice_index_or olds p no_place).kids
  pub numbers : (p : ℕ) → (slice_index_or news p no_place).number ≡ (slice_index_or olds p no_place).number
