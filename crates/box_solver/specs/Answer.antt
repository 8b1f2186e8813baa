-- What the search answers, and what it adds to the region.
use Rattle.std.specs.Prelude.{◌≡◌, ℕ, ◌^◌, ◌<◌, ◌≤◌, ℤ, true, false, List, [], ◌∷◌, length, unsigned_abs}
use Rattle.std.specs.List.{All, AllPairs, list_any}
use Rattle.lin_model.specs.KeyAtom.{PlainKeyAtom}
use Rattle.lin_model.specs.Key.{KeyHolds, key_width}
use Rattle.refutation.specs.declared.leaf.LeafTerm.{LeafTerm}
use Rattle.refutation.specs.declared.node.Node.{Node}
use Rattle.refutation.specs.Box.{PlainBox}
use Rattle.refutation.specs.Reading.{Refutes}
use Rattle.refutation.specs.SearchOrder.{lowest_corner}
use Rattle.refutation.specs.SearchTree.{IsSearchTree, undecided_boxes, inner_count, is_left, IsOpenTree, room}
use Rattle.box_solver.specs.declared.found.Found.{Found}
use Rattle.box_solver.specs.declared.found.Found.TheVariants.{Model, Refuted, Spent}
use Rattle.box_solver.specs.Region.{Adds, PlainTreeRegion}

-- there is a first box, and this point is its lowest corner
abbrev pub IsFirstCorner : List PlainKeyAtom → List PlainBox → List ℤ → Type 0
IsFirstCorner key [] point = ⊥
IsFirstCorner key (box ∷ boxes) point = point ≡ lowest_corner key box.bounds

-- a model with its tree: the point satisfies the key, and is the lowest corner of the first box that a search leaves after
-- few splits
pub record IsModelTree (key : List PlainKeyAtom) (budget : ℕ) (point : List ℤ) (nodes : List Node)
    (terms : List LeafTerm) : Type 0 where
  pub one_each : length point ≡ key_width key
  pub small : All (λ n. unsigned_abs n ≤ 2 ^ 32) point
  pub holds : KeyHolds key point
  pub search : IsSearchTree key nodes terms
  pub no_left : list_any is_left nodes ≡ false
  pub few : inner_count nodes ≤ budget
  pub corner : IsFirstCorner key (undecided_boxes key nodes terms) point

-- a search that refutes the key in few splits
pub record IsRefutingTree (key : List PlainKeyAtom) (budget : ℕ) (nodes : List Node) (terms : List LeafTerm) : Type 0
  where
    pub refutes : Refutes key nodes terms
    pub search : IsSearchTree key nodes terms
    pub few : inner_count nodes ≤ budget

-- nothing but Left stands behind a Left: once the budget is used up, boxes are marked and none is closed
abbrev pub OnlyLeftAfterLeft : List Node → Type 0
OnlyLeftAfterLeft nodes = AllPairs (λ node later. is_left node ≡ true → is_left later ≡ true) nodes

-- an open tree of just as many splits as the budget, which is below the room of the key, finished with Left alone
pub record IsSpentTree (key : List PlainKeyAtom) (budget : ℕ) (nodes : List Node) (terms : List LeafTerm) : Type 0 where
  pub open_tree : IsOpenTree key budget nodes terms
  pub left_alone : OnlyLeftAfterLeft nodes
  pub below_room : budget < room key

-- what each answer says of the nodes and terms
abbrev pub IsAnswer : List PlainKeyAtom → ℕ → Found → List Node → List LeafTerm → Type 0
IsAnswer key budget (Model point) nodes terms = IsModelTree key budget point.items nodes terms
IsAnswer key budget Refuted nodes terms = IsRefutingTree key budget nodes terms
IsAnswer key budget Spent nodes terms = IsSpentTree key budget nodes terms

-- the region has, behind what it had, the tree of the answer; no item of the trail is left, and the room for it is as it was
pub record Answers (key : List PlainKeyAtom) (budget : ℕ) (old new : PlainTreeRegion) (found : Found) : Type 0 where
  pub nodes : List Node
  pub terms : List LeafTerm
  pub adds : Adds old new nodes terms
  pub no_trail : new.trail ≡ []
  pub spare_trail : new.spare_trail ≡ old.spare_trail
  pub answer : IsAnswer key budget found nodes terms
