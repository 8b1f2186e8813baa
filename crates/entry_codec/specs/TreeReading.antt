-- Reading trees: their nodes without terms, and the terms of all combinations in order.
use Rattle.std.specs.Prelude.{ℕ, List, ◌++◌, length}
use Rattle.refutation.specs.declared.leaf.LeafTerm.{LeafTerm}
use Rattle.refutation.specs.declared.node.Node.{Node}
use Rattle.refutation.specs.Tree.{PlainTree}
use Rattle.entry_codec.specs.declared.kind.NodeKind.{NodeKind}
use Rattle.entry_codec.specs.Reading.{Read, mapped_at}
use Rattle.entry_codec.specs.Nodes.{TreeNode, split, ne_split, combo, fixed, empty, node_of, tree_of}
use Rattle.entry_codec.specs.NodeReading.{leaf_terms_at, node_fields_at, node_at, nodes_at}

-- the terms of the nodes before, and behind them those of this node
abbrev pub terms_with : List LeafTerm → TreeNode → List LeafTerm
terms_with before (split _ _) = before
terms_with before (ne_split _) = before
terms_with before (combo own) = before ++ own
terms_with before (fixed _) = before
terms_with before empty = before

-- a node without its terms, with the terms of those before it and its own
abbrev pub parted : List LeafTerm → TreeNode → Node × List LeafTerm
parted before whole = (node_of whole, terms_with before whole)

-- the terms of a combination: how many, and these terms with them behind
unfoldable pub own_terms_at : List LeafTerm → List ℕ → Read (ℕ × List LeafTerm)
own_terms_at before = mapped_at (λ own. (length own, before ++ own)) leaf_terms_at

-- the fields of a node of this kind, behind these terms
unfoldable pub fields_behind : NodeKind → List LeafTerm → List ℕ → Read (Node × List LeafTerm)
fields_behind kind before = mapped_at (parted before) (node_fields_at kind)

-- a node behind these terms
unfoldable pub node_behind : List LeafTerm → List ℕ → Read (Node × List LeafTerm)
node_behind before = mapped_at (parted before) node_at

-- a tree
unfoldable pub tree_at : List ℕ → Read PlainTree
tree_at = mapped_at tree_of nodes_at
