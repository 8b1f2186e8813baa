-- Trees and their nodes, entries and their bodies.
use Rattle.std.proofs.Common.{◌≡◌, List, [], ◌∷◌, ◌++◌, length, map, drop, refl, sym, ap, subst, ◌∙◌}
use Rattle.std.specs.List.{flat_map}
use Rattle.std.proofs.lemmas.List.{take_at, drop_at}
use Rattle.refutation.specs.declared.leaf.LeafTerm.{LeafTerm}
use Rattle.entry_codec.specs.Nodes.{TreeNode, split, ne_split, combo, fixed, empty, node_of, terms_of, nodes_of}
use Rattle.entry_codec.specs.Bodies.{Body, sat, unsat, body, entry_of, body_of, IsInGrammar}

-- the nodes of the tree of some nodes
pub nodes_of-tree : (whole : List TreeNode) → nodes_of (map node_of whole) (flat_map terms_of whole) ≡ whole
nodes_of-tree [] = refl
nodes_of-tree (split var at ∷ others) = ap (λ (ns : List TreeNode). split var at ∷ ns) (nodes_of-tree others)
nodes_of-tree (ne_split atom ∷ others) = ap (λ (ns : List TreeNode). ne_split atom ∷ ns) (nodes_of-tree others)
nodes_of-tree (combo terms ∷ others) =
    let behind : List LeafTerm = flat_map terms_of others in
    ap (λ (ts : List LeafTerm). combo ts ∷ nodes_of (map node_of others) (drop (length terms) (terms ++ behind)))
    (take_at terms behind (length terms) refl)
    ∙ ap (λ (ts : List LeafTerm). combo terms ∷ nodes_of (map node_of others) ts)
    (drop_at terms behind (length terms) refl)
    ∙ ap (λ (ns : List TreeNode). combo terms ∷ ns) (nodes_of-tree others)
nodes_of-tree (fixed atom ∷ others) = ap (λ (ns : List TreeNode). fixed atom ∷ ns) (nodes_of-tree others)
nodes_of-tree (empty ∷ others) = ap (λ (ns : List TreeNode). empty ∷ ns) (nodes_of-tree others)

-- the body of the entry of a body
pub body_of-entry : (b : Body) → body_of (entry_of b) ≡ b
body_of-entry (sat atoms values) = refl
body_of-entry (unsat atoms whole) = ap (λ (ns : List TreeNode). unsat atoms ns) (nodes_of-tree whole)

-- the entry of a body that may stand is in the grammar
pub entry_in_grammar : (b : Body) → body.may b → IsInGrammar (entry_of b)
entry_in_grammar b may =
    record { own = ap entry_of (body_of-entry b); may = subst body.may (sym (body_of-entry b)) may }
