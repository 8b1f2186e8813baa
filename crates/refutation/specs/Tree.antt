-- Trees as their nodes and terms.
use Rattle.std.specs.Prelude.{List}
use Rattle.refutation.specs.declared.leaf.LeafTerm.{LeafTerm}
use Rattle.refutation.specs.declared.node.Node.{Node}

-- the nodes in preorder, and the terms of their combinations in the same order
pub record PlainTree : Type 0 where
  pub nodes : List Node
  pub terms : List LeafTerm
