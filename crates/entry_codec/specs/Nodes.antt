-- The nodes of a tree in a body, each combination with its terms.
use Rattle.std.specs.Prelude.{ℕ, ℤ, List, [], ◌∷◌, length, map, take, drop}
use Rattle.std.specs.List.{flat_map}
use Rattle.refutation.specs.declared.leaf.LeafTerm.{LeafTerm}
use Rattle.refutation.specs.declared.leaf.On.{On}
use Rattle.refutation.specs.declared.leaf.On.TheVariants.{Atom as OnAtom, Side as OnSide}
use Rattle.refutation.specs.declared.node.Node.{Node}
use Rattle.refutation.specs.declared.node.Node.TheVariants.{Split, NeSplit, Combo, Fixed, Empty, Left}
use Rattle.refutation.specs.Tree.{PlainTree}
use Rattle.entry_codec.specs.declared.kind.NodeKind.{NodeKind}
use Rattle.entry_codec.specs.declared.kind.NodeKind.TheVariants as kinds
use Rattle.entry_codec.specs.declared.kind.OnKind.{OnKind}
use Rattle.entry_codec.specs.declared.kind.OnKind.TheVariants as ons
use Rattle.entry_codec.specs.Grammar.{Grammar, nothing, both, seen_as, counted}
use Rattle.entry_codec.specs.Fields.{node_count, split_var, cut, reference, leaf_count, factor, node_kind, on_kind}

-- ---- terms of combinations

-- what a term is on, by its kind and its number
abbrev pub on_parts : On → OnKind × ℕ
on_parts (OnAtom number) = (ons.Atom, number)
on_parts (OnSide number) = (ons.Side, number)

-- an atom or a side
unfoldable pub on : Grammar On
on = seen_as on_parts (both on_kind (λ kind. reference))

-- a term of a combination: what it is on, its factor
unfoldable pub leaf_term : Grammar LeafTerm
leaf_term = seen_as (λ t. (t.on, t.factor)) (both on (λ o. factor))

-- ---- nodes

-- a node with its own terms
pub data TreeNode : Type 0 where
  split : ℕ → ℤ → TreeNode
  ne_split : ℕ → TreeNode
  combo : List LeafTerm → TreeNode
  fixed : ℕ → TreeNode
  empty : TreeNode

-- what stands behind the kind of a node
abbrev pub NodeFields : NodeKind → Type 0
NodeFields kinds.Split = ℕ × ℤ
NodeFields kinds.NeSplit = ℕ
NodeFields kinds.Combo = List LeafTerm
NodeFields kinds.Fixed = ℕ
NodeFields kinds.Empty = Unit {0}

-- a variable and a cut; an atom; terms with their number; an atom; nothing
unfoldable pub node_fields : (kind : NodeKind) → Grammar (NodeFields kind)
node_fields kinds.Split = both split_var (λ var. cut)
node_fields kinds.NeSplit = reference
node_fields kinds.Combo = counted leaf_count (λ before. leaf_term)
node_fields kinds.Fixed = reference
node_fields kinds.Empty = nothing

-- a node by its kind and its fields
abbrev pub node_parts : TreeNode → (kind : NodeKind) × NodeFields kind
node_parts (split var at) = (kinds.Split, (var, at))
node_parts (ne_split atom) = (kinds.NeSplit, atom)
node_parts (combo terms) = (kinds.Combo, terms)
node_parts (fixed atom) = (kinds.Fixed, atom)
node_parts empty = (kinds.Empty, tt)

-- a node: its kind, and the fields of that kind
unfoldable pub node : Grammar TreeNode
node = seen_as node_parts (both node_kind node_fields)

-- the nodes of a tree: their number, the nodes
unfoldable pub nodes : Grammar (List TreeNode)
nodes = counted node_count (λ before. node)

-- ---- trees

-- a node without its terms
abbrev pub node_of : TreeNode → Node
node_of (split var at) = Split var at
node_of (ne_split atom) = NeSplit atom
node_of (combo terms) = Combo (length terms)
node_of (fixed atom) = Fixed atom
node_of empty = Empty

-- the terms of a node
abbrev pub terms_of : TreeNode → List LeafTerm
terms_of (split _ _) = []
terms_of (ne_split _) = []
terms_of (combo terms) = terms
terms_of (fixed _) = []
terms_of empty = []

-- the tree of these nodes, with the terms of all combinations in order
abbrev pub tree_of : List TreeNode → PlainTree
tree_of whole = record { nodes = map node_of whole; terms = flat_map terms_of whole }

-- the nodes of a tree, each combination with the terms that come next. A Left has no bytes
abbrev pub nodes_of : List Node → List LeafTerm → List TreeNode
nodes_of [] terms = []
nodes_of (Split var at ∷ others) terms = split var at ∷ nodes_of others terms
nodes_of (NeSplit atom ∷ others) terms = ne_split atom ∷ nodes_of others terms
nodes_of (Combo count ∷ others) terms = combo (take count terms) ∷ nodes_of others (drop count terms)
nodes_of (Fixed atom ∷ others) terms = fixed atom ∷ nodes_of others terms
nodes_of (Empty ∷ others) terms = empty ∷ nodes_of others terms
nodes_of (Left ∷ others) terms = nodes_of others terms
