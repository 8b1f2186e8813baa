-- Entries aren't too large for frames.
use Rattle.std.proofs.Common.{◌≡◌, ◌≤◌, false, List, [], ◌∷◌, length, take, drop, refl, ap, ◌∙◌, arith}
use Rattle.std.specs.List.{flat_map}
use Rattle.std.proofs.lemmas.List.{length-append, length-drop, length-map, length-take}
use Rattle.lin_model.specs.Facts.{key-narrow}
use Rattle.refutation.specs.declared.leaf.LeafTerm.{LeafTerm}
use Rattle.refutation.specs.declared.node.Node.{Node}
use Rattle.refutation.specs.declared.node.Node.TheVariants.{Split, NeSplit, Combo, Fixed, Empty, Left}
use Rattle.refutation.specs.Box.{root_box}
use Rattle.refutation.specs.Tree.{PlainTree}
use Rattle.entry_codec.specs.Bodies.{body_bytes}
use Rattle.entry_codec.specs.Fits.{FrameLimitsAreFixed, PointsFit, SmallTreesFit, SmallCoresFit}
use Rattle.entry_codec.specs.Nodes.{terms_of, nodes_of}
use Rattle.entry_codec.proofs.LengthLaws.{sat_length, unsat_length}
use Rattle.entry_codec.proofs.TreeSizes.{sizes_where_read}

pub points_fit : PointsFit
unfolding body_bytes
points_fit e checked = record {
  few = omega arith;
  short = omega (
    arith,
    sat_length e.key e.point checked.key
        (omega (arith, checked.evidence.one_each, key-narrow e.key checked.key)),
  );
}

-- no more nodes have bytes than a tree has, and no more terms
few_in_body : (some : List Node) (terms : List LeafTerm) → (length (nodes_of some terms) ≤ length some)
    × (length (flat_map terms_of (nodes_of some terms)) ≤ length terms)
few_in_body [] terms = (omega arith, omega arith)
few_in_body (Split v at ∷ others) terms = let h = few_in_body others terms in (omega arith, h.1)
few_in_body (NeSplit i ∷ others) terms = let h = few_in_body others terms in (omega arith, h.1)
few_in_body (Combo count ∷ others) terms =
    let h = few_in_body others (drop count terms) in (
      omega arith,
      omega (
        arith,
        h.1,
        length-append (take count terms) (flat_map terms_of (nodes_of others (drop count terms))),
        length-take count terms,
        length-drop count terms,
      ),
    )
few_in_body (Fixed i ∷ others) terms = let h = few_in_body others terms in (omega arith, h.1)
few_in_body (Empty ∷ others) terms = let h = few_in_body others terms in (omega arith, h.1)
few_in_body (Left ∷ others) terms = let h = few_in_body others terms in (omega arith, h.1)

pub small_trees_fit : SmallTreesFit
unfolding body_bytes
small_trees_fit e is_key small =
    let few = few_in_body e.tree.nodes e.tree.terms in
    record {
      few = omega (arith, small.few_nodes);
      short = omega (
        arith,
        unsat_length e.key (nodes_of e.tree.nodes e.tree.terms) is_key,
        few.0,
        few.1,
        small.few_nodes,
        small.few_terms,
      );
    }

pub small_cores_fit : SmallCoresFit
small_cores_fit key tree e is_key h =
    let sizes = sizes_where_read false key tree.nodes tree.terms (root_box key ∷ []) h.refutes.no_rest
    h.refutes.no_terms h.refutes.no_boxes in
    let as_many : length e.tree.nodes ≡ length tree.nodes =
    ap (λ (t : PlainTree). length t.nodes) h.shrunk.adjusted ∙ length-map tree.nodes _ in
    let as_many_terms : length e.tree.terms ≡ length tree.terms =
    ap (λ (t : PlainTree). length t.terms) h.shrunk.adjusted ∙ length-map tree.terms _ in
    small_trees_fit e is_key (record {
      few_nodes = omega (arith, sizes.nodes_are, h.few, as_many);
      few_terms = omega (arith, sizes.terms_are, h.few, as_many_terms);
    })

pub frame_limits : FrameLimitsAreFixed
frame_limits = record { body = refl; nodes = refl; cut = refl; leaf_terms = refl; multiplier = refl }
