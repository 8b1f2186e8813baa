-- Trees of keys. Each place stands for a list of atoms, the way to it: the root for none, each other place for the way to
-- an older place and one atom more. Keys with equal fronts share places.
use Rattle.std.specs.Prelude.{◌≡◌, ℕ, ◌+◌, ◌^◌, ◌<◌, ◌≤◌, pos, IfSome, IsSomeAnd, All, List, [], ◌∷◌, ◌++◌, length, map, Contains}
use Rattle.std.specs.Prelude.{slice_index_or}
use Rattle.std.specs.declared.cmp.Ordering.TheVariants.{Less}
use Rattle.lin_model.specs.declared.op.Op.TheVariants.{Le}
use Rattle.lin_model.specs.KeyAtom.{PlainKeyAtom}
use Rattle.lin_model.specs.AtomOrder.{compare_atoms}
use Rattle.key_tree.specs.declared.branch.Branch.{Branch}
use Rattle.key_tree.specs.declared.kid.Kid.{Kid}
use Rattle.key_tree.specs.declared.held.Held.{Held}
use Rattle.key_tree.specs.Places.{PlainPlace, no_place}
use Rattle.key_tree.specs.Prints.{hash_of, gives_of, IsWithin}

-- the branch to each place but the root, in the order of places; the places; and what is held, in the order in which it came
pub record PlainTree : Type 0 where
  pub branches : List Branch
  pub places : List PlainPlace
  pub held : List Held

-- a key and the number under which it is held
pub record Pair : Type 0 where
  pub key : List PlainKeyAtom
  pub number : ℕ

-- what stands for the branch to the root
abbrev pub no_branch : Branch
no_branch = record { from = 0; atom = record { form = []; op = Le; constant = pos 0 }; least = 0 }

-- the place of this number, the root being 0
abbrev pub place_at : PlainTree → ℕ → PlainPlace
place_at tree place = slice_index_or tree.places place no_place

-- the branch to the place of this number
abbrev pub branch_to : PlainTree → ℕ → Branch
branch_to tree place = slice_index_or (no_branch ∷ tree.branches) place no_branch

-- the ways to so many places, and behind them those that the branches lead to
unfoldable pub ways_from : List (List PlainKeyAtom) → List Branch → List (List PlainKeyAtom)
ways_from ways [] = ways
ways_from ways (b ∷ bs) = ways_from (ways ++ (slice_index_or ways b.from [] ++ b.atom ∷ []) ∷ []) bs

-- the way to the place of this number
abbrev pub way_to : PlainTree → ℕ → List PlainKeyAtom
way_to tree place = slice_index_or (ways_from ([] ∷ []) tree.branches) place []

-- the pairs that are held, in the order in which they came
abbrev pub pairs_of : PlainTree → List Pair
pairs_of tree = map (λ h. record { key = way_to tree h.place; number = h.number }) tree.held

-- this key is held under this number
abbrev pub Holds : PlainTree → List PlainKeyAtom → ℕ → Type 0
Holds tree key number = Contains (pairs_of tree) (record { key = key; number = number })

-- a kid tells of the branch to its place, which isn't the root
pub record TellsOfBranch (tree : PlainTree) (kid : Kid) : Type 0 where
  pub some : 0 < kid.place
  pub within : kid.place < length tree.places
  pub least : kid.least ≡ (branch_to tree kid.place).least
  pub hash : kid.hash ≡ hash_of (branch_to tree kid.place).atom.form

-- a kid of a place: its branch begins there
pub record IsKidOf (tree : PlainTree) (place : ℕ) (kid : Kid) : Type 0 where
  pub tells : TellsOfBranch tree kid
  pub later : place < kid.place
  pub from : (branch_to tree kid.place).from ≡ place

-- the kids of a place: each branch that begins there and no other, each once, in the order of their atoms
pub record AreKidsOf (tree : PlainTree) (place : ℕ) (kids : List Kid) : Type 0 where
  pub kids_are : (k : ℕ) (d : Kid) → k < length kids → IsKidOf tree place (slice_index_or kids k d)
  pub ascend : (j k : ℕ) (c d : Kid) → j < k → k < length kids
      → compare_atoms (branch_to tree (slice_index_or kids j c).place).atom
      (branch_to tree (slice_index_or kids k d).place).atom ≡ Less

-- a place is among the kids of the place from which its branch comes
pub record HasParent (tree : PlainTree) (place : ℕ) : Type 0 where
  pub older : (branch_to tree place).from < place
  pub at : ℕ
  pub within : at < length (place_at tree (branch_to tree place).from).kids
  pub is : (d : Kid) → (slice_index_or (place_at tree (branch_to tree place).from).kids at d).place ≡ place

-- the least number that a branch tells is held behind it, and none that is held there is less
pub record IsLeastBehind (tree : PlainTree) (place : ℕ) : Type 0 where
  pub rest : List PlainKeyAtom
  pub held : Holds tree (way_to tree place ++ rest) (branch_to tree place).least
  pub least : (more : List PlainKeyAtom) (n : ℕ) → Holds tree (way_to tree place ++ more) n
      → (branch_to tree place).least ≤ n

-- the number of a place is the least under which its way is held; where there is none, it is held under none
pub record IsNumbered (tree : PlainTree) (place : ℕ) : Type 0 where
  pub held : IfSome (place_at tree place).number (λ n. Holds tree (way_to tree place) n)
  pub least : (n : ℕ) → Holds tree (way_to tree place) n → IsSomeAnd (place_at tree place).number (λ m. m ≤ n)

-- the mask of the place before has all that the branch's atom gives, and all of the place's own mask
pub record IsMasked (tree : PlainTree) (place : ℕ) : Type 0 where
  pub atom : IsWithin (gives_of (branch_to tree place).atom) (place_at tree (branch_to tree place).from).below
  pub behind : IsWithin (place_at tree place).below (place_at tree (branch_to tree place).from).below

-- The masks of the kids of a place: one for each kid, which has all that the atom of its branch gives, and all of the mask
-- of the place that it leads to. So a walk can tell that nothing there counts before it looks at the branch or the place.
pub record AreMasksOf (tree : PlainTree) (kids : List Kid) (masks : List ℕ) : Type 0 where
  pub counts : length masks ≡ length kids
  pub have : (k : ℕ) (d : Kid) (m : ℕ) → k < length kids
      → IsWithin (place_at tree (slice_index_or kids k d).place).below (slice_index_or masks k m)
  pub own : (k : ℕ) (d : Kid) (m : ℕ) → k < length kids
      → IsWithin (gives_of (branch_to tree (slice_index_or kids k d).place).atom) (slice_index_or masks k m)

-- What a tree keeps. Each place but the root has one branch, from an older place, whose kid it is; so each place has a way
-- of its own. There are no more places than numbers of 32 bits.
pub record IsTree (tree : PlainTree) : Type 0 where
  pub sized : length tree.places ≡ length tree.branches + 1
  pub kids : (p : ℕ) → p < length tree.places → AreKidsOf tree p (place_at tree p).kids
  pub parents : (p : ℕ) → 0 < p → p < length tree.places → HasParent tree p
  pub numbered : (p : ℕ) → p < length tree.places → IsNumbered tree p
  pub least : (p : ℕ) → 0 < p → p < length tree.places → IsLeastBehind tree p
  pub masked : (p : ℕ) → 0 < p → p < length tree.places → IsMasked tree p
  pub masks : (p : ℕ) → p < length tree.places → AreMasksOf tree (place_at tree p).kids (place_at tree p).masks
  pub few : length tree.places ≤ 2 ^ 32
  pub held : All (λ h. h.place < length tree.places) tree.held
  pub numbers : All (λ h. h.number < 2 ^ 32) tree.held
