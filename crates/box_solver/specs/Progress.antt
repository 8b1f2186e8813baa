-- How far a search has come.
use Rattle.std.specs.Prelude.{◌≡◌, ◌≢◌, ℕ, ◌≤◌, false, List, [], ◌∷◌}
use Rattle.std.specs.List.{All, AllPairs, list_any}
use Rattle.lin_model.specs.KeyAtom.{PlainKeyAtom}
use Rattle.lin_model.specs.Key.{key_width}
use Rattle.refutation.specs.declared.leaf.LeafTerm.{LeafTerm}
use Rattle.refutation.specs.declared.node.Node.{Node}
use Rattle.refutation.specs.Box.{PlainBox}
use Rattle.refutation.specs.Boxed.{IsBoxedIn, HasShortSides}
use Rattle.refutation.specs.SearchTree.{IsSearchTree, undecided_boxes, inner_count, is_left}
use Rattle.combos.specs.Found.{AreNeSides}
use Rattle.box_solver.specs.Region.{Adds, PlainTreeRegion}

-- what each box of a search keeps: both sides of each variable, none too long, and a side for each split by an atom
-- `form != c` above it, of which no two are by one atom
pub record IsSearchBox (key : List PlainKeyAtom) (box : PlainBox) : Type 0 where
  pub boxed : IsBoxedIn key box.bounds
  pub short : HasShortSides box.bounds
  pub ne_sides : AreNeSides key box.sides
  pub apart : AllPairs (λ side other. side.atom ≢ other.atom) box.sides

-- the nodes and terms are a search tree with this many splits, without Left, that leaves these boxes
pub record HasRead (key : List PlainKeyAtom) (splits : ℕ) (nodes : List Node) (terms : List LeafTerm)
    (boxes : List PlainBox) : Type 0 where
  pub narrow : key_width key ≤ 64
  pub search : IsSearchTree key nodes terms
  pub left : undecided_boxes key nodes terms ≡ boxes
  pub inner : inner_count nodes ≡ splits
  pub no_left : list_any is_left nodes ≡ false
  pub fit : All (IsSearchBox key) boxes

-- the region has behind its base such nodes and terms
pub record IsAt (key : List PlainKeyAtom) (base region : PlainTreeRegion) (splits : ℕ) (boxes : List PlainBox) : Type 0
  where
    pub nodes : List Node
    pub terms : List LeafTerm
    pub adds : Adds base region nodes terms
    pub read : HasRead key splits nodes terms boxes
