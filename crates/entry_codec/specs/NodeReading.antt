-- Reading the nodes of a tree.
use Rattle.std.specs.Prelude.{ℕ, Ok, List}
use Rattle.refutation.specs.declared.leaf.LeafTerm.{LeafTerm}
use Rattle.refutation.specs.declared.leaf.On.{On}
use Rattle.refutation.specs.declared.leaf.On.TheVariants.{Atom as OnAtom, Side as OnSide}
use Rattle.entry_codec.specs.declared.kind.NodeKind.{NodeKind}
use Rattle.entry_codec.specs.declared.kind.NodeKind.TheVariants as kinds
use Rattle.entry_codec.specs.declared.kind.OnKind.{OnKind}
use Rattle.entry_codec.specs.declared.kind.OnKind.TheVariants as ons
use Rattle.entry_codec.specs.Reading.{Read, ◌>>=◌, mapped_at, counted_at}
use Rattle.entry_codec.specs.FieldReading.{node_count_at, split_var_at, cut_at, reference_at, leaf_count_at, factor_at}
use Rattle.entry_codec.specs.FieldReading.{node_kind_at, on_kind_at}
use Rattle.entry_codec.specs.Nodes.{TreeNode, split, ne_split, combo, fixed, empty}

-- an atom or a side of this number
abbrev pub on_of : OnKind → ℕ → On
on_of ons.Atom number = OnAtom number
on_of ons.Side number = OnSide number

-- what a term is on
unfoldable pub on_at : List ℕ → Read On
on_at bytes = do
  kind ← on_kind_at bytes
  number ← reference_at kind.1
  Ok (on_of kind.0 number.0, number.1)

-- a term of a combination
unfoldable pub leaf_term_at : List ℕ → Read LeafTerm
leaf_term_at bytes = do
  on ← on_at bytes
  factor ← factor_at on.1
  Ok (record { on = on.0; factor = factor.0 }, factor.1)

-- the terms of a combination, with their number
unfoldable pub leaf_terms_at : List ℕ → Read (List LeafTerm)
leaf_terms_at = counted_at leaf_count_at (λ before. leaf_term_at)

-- the fields of a split
unfoldable pub split_at : List ℕ → Read TreeNode
split_at bytes = do
  var ← split_var_at bytes
  cut ← cut_at var.1
  Ok (split var.0 cut.0, cut.1)

-- the fields of a node of this kind
unfoldable pub node_fields_at : NodeKind → List ℕ → Read TreeNode
node_fields_at kinds.Split bytes = split_at bytes
node_fields_at kinds.NeSplit bytes = mapped_at ne_split reference_at bytes
node_fields_at kinds.Combo bytes = mapped_at combo leaf_terms_at bytes
node_fields_at kinds.Fixed bytes = mapped_at fixed reference_at bytes
node_fields_at kinds.Empty bytes = Ok (empty, bytes)

-- a node with its terms
unfoldable pub node_at : List ℕ → Read TreeNode
node_at bytes = do
  kind ← node_kind_at bytes
  node_fields_at kind.0 kind.1

-- the nodes of a tree, with their number
unfoldable pub nodes_at : List ℕ → Read (List TreeNode)
nodes_at = counted_at node_count_at (λ before. node_at)
