-- What is checked can be written, and is in the grammar once its terms were.
use Rattle.std.proofs.Common.{◌≡◌, ℕ, ◌+◌, ◌≤◌, List, [], ◌∷◌, length, map, take, drop, refl, sym, ap, subst, ◌∙◌}
use Rattle.std.proofs.Common.{arith}
use Rattle.std.specs.List.{All, flat_map}
use Rattle.std.proofs.lemmas.List.{length-append, length-map, take-append-drop}
use Rattle.std.proofs.lemmas.List.Elements.{All-append}
use Rattle.std.proofs.lemmas.List.Sums.{sum_by-cons}
use Rattle.lin_model.specs.Facts.{key-narrow}
use Rattle.lin_model.specs.Key.{IsKey, key_width}
use Rattle.lin_model.specs.Point.{IsPoint}
use Rattle.refutation.specs.declared.leaf.LeafTerm.{LeafTerm}
use Rattle.refutation.specs.declared.node.Node.{Node}
use Rattle.refutation.specs.declared.node.Node.TheVariants.{Combo}
use Rattle.refutation.specs.Box.{root_box}
use Rattle.refutation.specs.Tree.{PlainTree}
use Rattle.cert_check.specs.declared.entry.Entry.TheVariants.{Sat, Unsat}
use Rattle.cert_check.specs.Entries.{PlainSatEntry, PlainUnsatEntry, IsSatisfied, IsRefuted}
use Rattle.entry_codec.specs.declared.limits.TheConstants.{MAX_NODES}
use Rattle.entry_codec.specs.Fields.{node_count, body_kind}
use Rattle.entry_codec.specs.Numbers.{long}
use Rattle.entry_codec.specs.Nodes.{TreeNode, split, ne_split, combo, fixed, empty, node_of, terms_of, tree_of}
use Rattle.entry_codec.specs.Nodes.{nodes_of}
use Rattle.entry_codec.specs.Nodes.{node, nodes}
use Rattle.entry_codec.specs.Bodies.{body, body_fields, IsInGrammar}
use Rattle.entry_codec.specs.Writing.{taken_by, taken_by_all, IsWritable, HasShortSide, NamesShortSides}
use Rattle.entry_codec.proofs.KeyMay.{MayFollow-alike, key_may, point_may}
use Rattle.entry_codec.proofs.NodesMay.{AreWhole, whole_where_read}

-- ---- a key with a point

pub sat_in_grammar : (e : PlainSatEntry) → IsKey e.key → IsSatisfied e → IsPoint e.point → IsInGrammar (Sat e)
unfolding body body_fields body_kind
sat_in_grammar e is_key satisfied is_point = record {
  own = refl;
  may = (
    tt,
    (
      key_may e.key is_key,
      point_may (key_width e.key) e.point (key-narrow e.key is_key) satisfied.one_each is_point.small,
    ),
  );
}

-- ---- a key with a tree

-- nodes without their terms take as many as they had
taken_by_all-nodes : (ns : List TreeNode) → taken_by_all (map node_of ns) ≡ length (flat_map terms_of ns)
taken_by_all-nodes [] = refl
taken_by_all-nodes (split var at ∷ ns) = omega (arith, taken_by_all-nodes ns)
taken_by_all-nodes (ne_split atom ∷ ns) = omega (arith, taken_by_all-nodes ns)
taken_by_all-nodes (combo terms ∷ ns) =
    sum_by-cons taken_by (Combo (length terms)) (map node_of ns)
    ∙ ap (λ (n : ℕ). length terms + n) (taken_by_all-nodes ns) ∙ sym (length-append terms (flat_map terms_of ns))
taken_by_all-nodes (fixed atom ∷ ns) = omega (arith, taken_by_all-nodes ns)
taken_by_all-nodes (empty ∷ ns) = omega (arith, taken_by_all-nodes ns)

-- a tree that refutes a key is all of its nodes
whole_where_refuted : (e : PlainUnsatEntry) → IsKey e.key → IsRefuted e → AreWhole e.tree.nodes e.tree.terms
whole_where_refuted e is_key refuted =
    whole_where_read e.key e.tree.nodes e.tree.terms (root_box e.key ∷ []) is_key.fits.few refuted.no_rest
    refuted.no_terms

-- as many nodes have bytes
as_many : (some : List Node) (terms : List LeafTerm) → AreWhole some terms
    → length (nodes_of some terms) ≡ length some
as_many some terms whole = sym (length-map (nodes_of some terms) node_of) ∙ ap length whole.nodes_back

pub writable_where_refuted : (e : PlainUnsatEntry) → IsKey e.key → IsRefuted e → length e.tree.nodes ≤ MAX_NODES
    → IsWritable e.tree
writable_where_refuted e is_key refuted few =
    let whole = whole_where_refuted e is_key refuted in
    record {
      one_each = as_many e.tree.nodes e.tree.terms whole;
      few = omega (arith, few);
      all_taken = ap taken_by_all (sym whole.nodes_back) ∙ taken_by_all-nodes (nodes_of e.tree.nodes e.tree.terms)
          ∙ ap length whole.terms_back;
    }

-- the tree of all nodes of a tree
tree_back : (some : List Node) (terms : List LeafTerm) → AreWhole some terms
    → tree_of (nodes_of some terms) ≡ record { nodes = some; terms = terms }
tree_back some terms whole =
    ap (λ (ns : List Node). record { nodes = ns; terms = flat_map terms_of (nodes_of some terms) }) whole.nodes_back
    ∙ ap (λ (ts : List LeafTerm). record { nodes = some; terms = ts }) whole.terms_back

nodes_may : (ns : List TreeNode) → length ns ≤ MAX_NODES → All node.may ns → nodes.may ns
unfolding nodes node_count long
nodes_may ns few may = ((omega (arith, few), few), (refl, MayFollow-alike node ns may))

pub unsat_in_grammar : (e : PlainUnsatEntry) → IsKey e.key → IsRefuted e → length e.tree.nodes ≤ MAX_NODES
    → NamesShortSides e.tree.terms → IsInGrammar (Unsat e)
unfolding body body_fields body_kind
unsat_in_grammar e is_key refuted few short =
    let whole = whole_where_refuted e is_key refuted in
    let ns : List TreeNode = nodes_of e.tree.nodes e.tree.terms in
    record {
      own = ap (λ (t : PlainTree). Unsat (record { key = e.key; tree = t }))
          (tree_back e.tree.nodes e.tree.terms whole);
      may = (
        tt,
        (
          key_may e.key is_key,
          nodes_may ns (omega (arith, as_many e.tree.nodes e.tree.terms whole, few)) (whole.may short),
        ),
      );
    }

-- where the first terms are on sides of short numbers, and the rest too, all are
pub short_with_rest : (n : ℕ) (terms rest : List LeafTerm) → rest ≡ drop n terms → NamesShortSides (take n terms)
    → NamesShortSides rest → NamesShortSides terms
short_with_rest n terms rest is first others =
    subst NamesShortSides (take-append-drop n terms)
    (All-append (λ (t : LeafTerm). HasShortSide t.on) (take n terms) (drop n terms) first
    (subst NamesShortSides is others))
