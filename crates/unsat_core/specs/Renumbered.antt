-- Which atoms a tree names, and the tree that speaks of a choice among them by their new numbers.
use Rattle.std.specs.Prelude.{ℕ, Bool, false, ◌||◌, ◌==◌, List, take, map}
use Rattle.std.specs.List.{list_any, count_by}
use Rattle.refutation.specs.declared.leaf.LeafTerm.{LeafTerm}
use Rattle.refutation.specs.declared.leaf.On.{On}
use Rattle.refutation.specs.declared.leaf.On.TheVariants.{Atom as OnAtom, Side as OnSide}
use Rattle.refutation.specs.declared.node.Node.{Node}
use Rattle.refutation.specs.declared.node.Node.TheVariants.{Split, NeSplit, Combo, Fixed, Empty, Left}
use Rattle.refutation.specs.Tree.{PlainTree}

-- ---- what a tree names

-- the term names the atom itself; a side names it by the split that made the side
abbrev pub on_names : ℕ → On → Bool
on_names i (OnAtom j) = i == j
on_names i (OnSide k) = false

-- the node names the atom
abbrev pub node_names : ℕ → Node → Bool
node_names i (Split v cut) = false
node_names i (NeSplit j) = i == j
node_names i (Combo count) = false
node_names i (Fixed j) = i == j
node_names i Empty = false
node_names i Left = false

-- a node or a term of the tree names the atom
abbrev pub names : PlainTree → ℕ → Bool
names tree i = list_any (node_names i) tree.nodes || list_any (λ term. on_names i term.on) tree.terms

-- ---- new numbers

-- the number of an atom among the chosen ones: how many of those before it are chosen
unfoldable pub new_number : List Bool → ℕ → ℕ
new_number choice i = count_by (λ c. c) (take i choice)

-- what a term names, by the new number
abbrev pub renumbered_on : List Bool → On → On
renumbered_on choice (OnAtom i) = OnAtom (new_number choice i)
renumbered_on choice (OnSide k) = OnSide k

-- a term, by the new numbers
abbrev pub renumbered_term : List Bool → LeafTerm → LeafTerm
renumbered_term choice term = record { on = renumbered_on choice term.on; factor = term.factor }

-- a node, by the new numbers
abbrev pub renumbered_node : List Bool → Node → Node
renumbered_node choice (Split v cut) = Split v cut
renumbered_node choice (NeSplit i) = NeSplit (new_number choice i)
renumbered_node choice (Combo count) = Combo count
renumbered_node choice (Fixed i) = Fixed (new_number choice i)
renumbered_node choice Empty = Empty
renumbered_node choice Left = Left

-- a tree, by the new numbers: for three atoms of which the first isn't chosen, what spoke of 1 and 2 speaks of 0 and 1
abbrev pub renumbered : List Bool → PlainTree → PlainTree
renumbered choice tree = record {
  nodes = map (renumbered_node choice) tree.nodes;
  terms = map (renumbered_term choice) tree.terms;
}
