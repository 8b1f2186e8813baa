-- What nodes take, which trees can be written, and what is known of terms that were written.
use Rattle.std.specs.Prelude.{◌≡◌, ℕ, ◌^◌, ◌<◌, List, length}
use Rattle.std.specs.List.{All, sum_by}
use Rattle.refutation.specs.declared.leaf.LeafTerm.{LeafTerm}
use Rattle.refutation.specs.declared.leaf.On.{On}
use Rattle.refutation.specs.declared.leaf.On.TheVariants.{Atom as OnAtom, Side as OnSide}
use Rattle.refutation.specs.declared.node.Node.{Node}
use Rattle.refutation.specs.declared.node.Node.TheVariants.{Split, NeSplit, Combo, Fixed, Empty, Left}
use Rattle.refutation.specs.Tree.{PlainTree}
use Rattle.entry_codec.specs.Nodes.{nodes_of}

-- how many of the terms that come next a node takes
abbrev pub taken_by : Node → ℕ
taken_by (Split var at) = 0
taken_by (NeSplit atom) = 0
taken_by (Combo count) = count
taken_by (Fixed atom) = 0
taken_by Empty = 0
taken_by Left = 0

-- how many all nodes take
abbrev pub taken_by_all : List Node → ℕ
taken_by_all nodes = sum_by taken_by nodes

-- each node of the tree has bytes, their number fits its field, and they take just the tree's terms
pub record IsWritable (tree : PlainTree) : Type 0 where
  pub one_each : length (nodes_of tree.nodes tree.terms) ≡ length tree.nodes
  pub few : length tree.nodes < 2 ^ 32
  pub all_taken : taken_by_all tree.nodes ≡ length tree.terms

-- the number of a side fits its field, as the program's type of it keeps
abbrev pub HasShortSide : On → Type 0
HasShortSide (OnAtom number) = Unit {0}
HasShortSide (OnSide number) = number < 2 ^ 16

-- each side that a term is on has such a number
abbrev pub NamesShortSides : List LeafTerm → Type 0
NamesShortSides terms = All (λ t. HasShortSide t.on) terms
