-- Walks of a tree that look for the least number of a key.
use Rattle.std.specs.Prelude.{◌≡◌, ◌==◌, ◌⊎◌, ℕ, ◌+◌, ◌*◌, ◌<◌, ◌≤◌, All, List, [], ◌∷◌, ◌++◌, length, slice_index_or}
use Rattle.std.specs.List.{IsDistinct}
use Rattle.lin_model.specs.KeyAtom.{PlainKeyAtom}
use Rattle.atom_implies.specs.Implies.{Covers}
use Rattle.key_tree.specs.declared.kid.Kid.{Kid}
use Rattle.key_tree.specs.Tree.{PlainTree, way_to, place_at, branch_to, Holds}

-- What a walk looks for: keys that cover these atoms, or keys that these atoms cover.
pub data Sought : Type 0 where
  covering : List PlainKeyAtom → Sought
  covered_by : List PlainKeyAtom → Sought

-- whether a key is one that is looked for
abbrev pub Meets : Sought → List PlainKeyAtom → Type 0
Meets (covering atoms) key = Covers key atoms
Meets (covered_by atoms) key = Covers atoms key

-- a key held at or behind a place under this number, of which what is behind the way to the place passes
pub record PassesBehind (tree : PlainTree) (place : ℕ) (Passes : List PlainKeyAtom → Type 0) (number : ℕ) : Type 0 where
  pub rest : List PlainKeyAtom
  pub held : Holds tree (way_to tree place ++ rest) number
  pub passes : Passes rest

-- What was found at and behind a place, where something may have been found before: no greater number; that of before, or
-- that of a key held there that passes; and none greater than that of such a key.
pub record IsLeastFound (tree : PlainTree) (place : ℕ) (Passes : List PlainKeyAtom → Type 0) (before found : ℕ) : Type 0 where
  pub falls : found ≤ before
  pub attained : (found ≡ before) ⊎ PassesBehind tree place Passes found
  pub least : (number : ℕ) → PassesBehind tree place Passes number → found ≤ number

-- a place is this one or behind it
pub record IsAtOrBehind (tree : PlainTree) (place other : ℕ) : Type 0 where
  pub within : other < length tree.places
  pub rest : List PlainKeyAtom
  pub is : way_to tree other ≡ way_to tree place ++ rest

-- a place is behind this one
pub record IsBehind (tree : PlainTree) (place other : ℕ) : Type 0 where
  pub within : other < length tree.places
  pub atom : PlainKeyAtom
  pub rest : List PlainKeyAtom
  pub is : way_to tree other ≡ way_to tree place ++ atom ∷ rest

-- the steps that a walk took: it looked at some places where it may look, at none twice, and took at most so many at each
pub record Visits (May : ℕ → Type 0) (each before after : ℕ) : Type 0 where
  pub seen : List ℕ
  pub once : IsDistinct ◌==◌ seen
  pub may : All May seen
  pub cost : after ≤ before + each * length seen

-- the atom of this kid of a place
abbrev pub kid_atom : PlainTree → ℕ → ℕ → Kid → PlainKeyAtom
kid_atom tree place k d = (branch_to tree (slice_index_or (place_at tree place).kids k d).place).atom

-- a place is at or behind one of the first so many kids
pub record IsBehindFirst (tree : PlainTree) (place count other : ℕ) : Type 0 where
  pub kid : ℕ
  pub before : kid < count
  pub behind : (d : Kid) → IsAtOrBehind tree (slice_index_or (place_at tree place).kids kid d).place other

-- What was found at a place and behind its first so many kids.
pub record IsLeastSoFar (tree : PlainTree) (place : ℕ) (Passes : List PlainKeyAtom → Type 0) (count before found : ℕ)
    : Type 0 where
  pub falls : found ≤ before
  pub attained : (found ≡ before) ⊎ PassesBehind tree place Passes found
  pub here : (number : ℕ) → Holds tree (way_to tree place) number → Passes [] → found ≤ number
  pub least : (k : ℕ) (d : Kid) (number : ℕ) → k < count
      → PassesBehind tree (slice_index_or (place_at tree place).kids k d).place
      (λ rest. Passes (kid_atom tree place k d ∷ rest)) number → found ≤ number
