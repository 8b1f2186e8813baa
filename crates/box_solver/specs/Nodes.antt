-- The nodes that a search writes: for a leaf, and for a split with the two boxes that it leaves.
use Rattle.std.specs.Prelude.{◌≡◌, ◌≢◌, ℕ, ◌+◌, ◌<◌, ℤ, Bool, true, false, List, [], ◌∷◌, length}
use Rattle.lin_model.specs.KeyAtom.{PlainKeyAtom}
use Rattle.lin_model.specs.Key.{IsKey}
use Rattle.refutation.specs.declared.leaf.LeafTerm.{LeafTerm}
use Rattle.refutation.specs.declared.node.Node.{Node}
use Rattle.refutation.specs.declared.node.Node.TheVariants.{Split, NeSplit, Combo, Fixed, Empty, Left}
use Rattle.refutation.specs.Box.{PlainBox, left_half, right_half, on_side}
use Rattle.refutation.specs.Leaf.{PlainLeaf, combo, fixed, empty}
use Rattle.box_solver.specs.Progress.{IsSearchBox}
use Rattle.box_solver.specs.Region.{Adds, PlainTreeRegion}
use Rattle.box_solver.specs.Steps.{SplitsFairly}

-- the node of a leaf
abbrev pub leaf_node : PlainLeaf → Node
leaf_node (combo terms) = Combo (length terms)
leaf_node (fixed i) = Fixed i
leaf_node empty = Empty

-- the terms that this node takes
abbrev pub leaf_terms : PlainLeaf → List LeafTerm
leaf_terms (combo terms) = terms
leaf_terms (fixed i) = []
leaf_terms empty = []

-- the boxes that a split leaves
abbrev pub halves : Node → PlainBox → List PlainBox
halves (Split v cut) box = left_half box v cut ∷ right_half box v cut ∷ []
halves (NeSplit i) box = on_side box i false ∷ on_side box i true ∷ []
halves (Combo count) box = []
halves (Fixed i) box = []
halves Empty box = []
halves Left box = []

-- the node splits a box of the search of some key fairly
pub record IsSplitOf (box : PlainBox) (node : Node) : Type 0 where
  pub key : List PlainKeyAtom
  pub is_key : IsKey key
  pub search_box : IsSearchBox key box
  pub fair : SplitsFairly key box node

-- the region has the node of a split, and one item more on its trail
pub record Enters (node : Node) (old new : PlainTreeRegion) : Type 0 where
  pub adds : Adds old new (node ∷ []) []
  pub longer : length new.trail ≡ length old.trail + 1
  pub room : new.spare_trail + 1 ≡ old.spare_trail
