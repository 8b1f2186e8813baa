-- Laws of trees and of walks.
use Rattle.std.specs.Prelude.{◌≡◌, ℕ, ◌+◌, ◌*◌, ◌<◌, ◌≤◌, List, ◌∷◌, ◌++◌, length, slice_index_or}
use Rattle.lin_model.specs.KeyAtom.{PlainKeyAtom}
use Rattle.atom_implies.specs.Implies.{Implies}
use Rattle.key_tree.specs.declared.kid.Kid.{Kid}
use Rattle.key_tree.specs.Prints.{hash_of, needs_of, gives_of, IsWithin}
use Rattle.key_tree.specs.Held.{HavePrefixes}
use Rattle.key_tree.specs.Tree.{PlainTree, Pair, IsTree, Holds, way_to, place_at}
use Rattle.key_tree.specs.Walks.{Sought, Meets, IsLeastFound, IsLeastSoFar, IsAtOrBehind, IsBehind, IsBehindFirst, Visits, kid_atom}

-- keys have one number of prefixes
abbrev pub PrefixesAreCounted : Type 0
PrefixesAreCounted = (pairs : List Pair) (m n : ℕ) → HavePrefixes pairs m → HavePrefixes pairs n → m ≡ n

-- what an atom implies needs nothing that the atom doesn't give, and has its form's hash
pub record PrintsAreRight : Type 0 where
  pub gives : (a b : PlainKeyAtom) → Implies a b → IsWithin (needs_of b) (gives_of a)
  pub hash : (a b : PlainKeyAtom) → Implies a b → hash_of a.form ≡ hash_of b.form

-- the mask of a place has all that each atom behind it gives
abbrev pub MasksAreRight : Type 0
MasksAreRight = (tree : PlainTree) (place : ℕ) (rest : List PlainKeyAtom) (number k : ℕ) (d : PlainKeyAtom) → IsTree tree
    → place < length tree.places → Holds tree (way_to tree place ++ rest) number → k < length rest
    → IsWithin (gives_of (slice_index_or rest k d)) (place_at tree place).below

-- A walk that looked behind the first so many kids goes on to the next, and has looked behind the place when it looked
-- behind all.
pub record WalksGoOn : Type 0 where
  pub more : (tree : PlainTree) (place k before found better : ℕ) (d : Kid) (sought : Sought)
      → IsTree tree → place < length tree.places → k < length (place_at tree place).kids
      → IsLeastSoFar tree place (Meets sought) k before found
      → IsLeastFound tree (slice_index_or (place_at tree place).kids k d).place
      (λ rest. Meets sought (kid_atom tree place k d ∷ rest)) found better
      → IsLeastSoFar tree place (Meets sought) (k + 1) before better
  pub done : (tree : PlainTree) (place before found : ℕ) (sought : Sought)
      → IsTree tree → place < length tree.places
      → IsLeastSoFar tree place (Meets sought) (length (place_at tree place).kids) before found
      → IsLeastFound tree place (Meets sought) before found

-- The steps of a walk: of a kid alone, and of what is behind it; of one kid after the other; of all kids of a place. Those
-- behind the root are at most so many at each place but the root.
pub record VisitsGoOn : Type 0 where
  pub none : (tree : PlainTree) (place each steps : ℕ) → Visits (IsBehindFirst tree place 0) each steps steps
  pub one : (tree : PlainTree) (place each before after : ℕ) → place < length tree.places → after ≤ before + each
      → Visits (IsAtOrBehind tree place) each before after
  pub behind : (tree : PlainTree) (place each before mid after : ℕ) → IsTree tree → place < length tree.places
      → mid ≤ before + each → Visits (IsBehind tree place) each mid after
      → Visits (IsAtOrBehind tree place) each before after
  pub more : (tree : PlainTree) (place k each before mid after : ℕ) (d : Kid) → IsTree tree → place < length tree.places
      → k < length (place_at tree place).kids → Visits (IsBehindFirst tree place k) each before mid
      → Visits (IsAtOrBehind tree (slice_index_or (place_at tree place).kids k d).place) each mid after
      → Visits (IsBehindFirst tree place (k + 1)) each before after
  pub done : (tree : PlainTree) (place each before after : ℕ) → IsTree tree → place < length tree.places
      → Visits (IsBehindFirst tree place (length (place_at tree place).kids)) each before after
      → Visits (IsBehind tree place) each before after
  pub all : (tree : PlainTree) (each nodes before after : ℕ) → IsTree tree → nodes + 1 ≡ length tree.places
      → Visits (IsBehind tree 0) each before after → after ≤ before + each * nodes
