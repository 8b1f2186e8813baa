-- How many nodes and terms a tree has that closes its boxes, by its splits: each split makes one box of one more, each
-- leaf closes one and takes 8 terms at most.
use Rattle.std.proofs.Common.{◌≡◌, ℕ, ◌+◌, ◌*◌, ◌≤◌, Bool, true, false, cond, Some, None, List, [], ◌∷◌, ◌++◌, length}
use Rattle.std.proofs.Common.{take, drop, sym, ap, ◌∙◌, arith}
use Rattle.std.specs.Prelude.{nat_le, ◌&&◌}
use Rattle.std.proofs.lemmas.List.{length-append, length-drop}
use Rattle.std.proofs.lemmas.List.Sums.{sum_by-append}
use Rattle.std.proofs.lemmas.Option.{cond_some}
use Rattle.lin_model.specs.KeyAtom.{PlainKeyAtom}
use Rattle.refutation.specs.declared.leaf.LeafTerm.{LeafTerm}
use Rattle.refutation.specs.declared.node.Node.{Node}
use Rattle.refutation.specs.declared.node.Node.TheVariants.{Split, NeSplit, Combo, Fixed, Empty, Left}
use Rattle.refutation.specs.Box.{PlainBox, left_half, right_half, on_side}
use Rattle.refutation.specs.Leaf.{closes, combo, fixed, empty}
use Rattle.refutation.specs.Reading.{Treated, treated, is_split, names_ne, TreeReading, read_over}
use Rattle.refutation.specs.ReadingFacts.{first_is_read}
use Rattle.refutation.specs.SearchTree.{is_inner, inner_count}
use Rattle.entry_codec.specs.Writing.{taken_by}
use Rattle.entry_codec.proofs.NodesRead.{NodeStands, taken}

-- one node more
inner_count-cons : (first : Node) (nodes : List Node)
    → inner_count (first ∷ nodes) ≡ inner_count (first ∷ []) + inner_count nodes
inner_count-cons first nodes = sum_by-append (λ (n : Node). cond (is_inner n) 1 0) (first ∷ []) nodes

-- where a choice was made, it left the boxes of its value
boxes_left_by : (b : Bool) (v r : Treated) → cond b (Some v) None ≡ Some r → length r.boxes ≡ length v.boxes
boxes_left_by b v r h = ap (λ (t : Treated). length t.boxes) (sym (cond_some b v r h).1)

-- a node leaves two boxes where it splits, and none otherwise
boxes_left : (may_leave : Bool) (key : List PlainKeyAtom) (box : PlainBox) (first : Node) (terms : List LeafTerm)
    (after : Treated) → treated may_leave key box first terms ≡ Some after
    → length after.boxes ≡ 2 * inner_count (first ∷ [])
unfolding treated
boxes_left may_leave key box (Split v at) terms after h =
    boxes_left_by (is_split v at) (record {
      boxes = left_half box v at ∷ right_half box v at ∷ [];
      terms = terms;
    }) after h
boxes_left may_leave key box (NeSplit i) terms after h =
    boxes_left_by (names_ne key i) (record {
      boxes = on_side box i false ∷ on_side box i true ∷ [];
      terms = terms;
    }) after h
boxes_left may_leave key box (Combo count) terms after h =
    boxes_left_by (nat_le count (length terms) && closes key box (combo (take count terms)))
    (record { boxes = []; terms = drop count terms }) after h
boxes_left may_leave key box (Fixed i) terms after h =
    boxes_left_by (closes key box (fixed i)) (record { boxes = []; terms = terms }) after h
boxes_left may_leave key box Empty terms after h =
    boxes_left_by (closes key box empty) (record { boxes = []; terms = terms }) after h
boxes_left may_leave key box Left terms after h =
    boxes_left_by may_leave (record { boxes = []; terms = terms }) after h

-- a split takes no term, a leaf 8 at most
takes_few : (atoms : ℕ) (first : Node) (terms : List LeafTerm) → NodeStands atoms first terms
    → taken_by first + 8 * inner_count (first ∷ []) ≤ 8
takes_few atoms (Split v at) terms stands = omega arith
takes_few atoms (NeSplit i) terms stands = omega arith
takes_few atoms (Combo count) terms stands = omega (arith, stands.few)
takes_few atoms (Fixed i) terms stands = omega arith
takes_few atoms Empty terms stands = omega arith
takes_few atoms Left terms stands = omega arith

-- what nodes and terms come to that close so many boxes
pub record HasSizes (nodes : List Node) (terms : List LeafTerm) (boxes : ℕ) : Type 0 where
  pub nodes_are : length nodes ≡ 2 * inner_count nodes + boxes
  pub terms_are : length terms ≤ 8 * (inner_count nodes + boxes)

pub sizes_where_read : (may_leave : Bool) (key : List PlainKeyAtom) (nodes : List Node) (terms : List LeafTerm)
    (boxes : List PlainBox) → (read_over may_leave key nodes terms boxes).rest ≡ []
    → (read_over may_leave key nodes terms boxes).terms ≡ []
    → (read_over may_leave key nodes terms boxes).boxes ≡ [] → HasSizes nodes terms (length boxes)
unfolding read_over
sizes_where_read may_leave key [] terms boxes no_rest no_terms no_boxes =
    let no_box = ap length no_boxes in
    let no_term = ap length no_terms in
    record { nodes_are = omega arith; terms_are = omega arith }
sizes_where_read may_leave key (first ∷ nodes) terms [] no_rest no_terms no_boxes = absurd (cc)
sizes_where_read may_leave key (first ∷ nodes) terms (box ∷ boxes) no_rest no_terms no_boxes =
    let on_it = first_is_read may_leave key first nodes terms box boxes no_rest in
    let no_terms' = ap (λ (r : TreeReading). r.terms) (sym on_it.then_rest) ∙ no_terms in
    let no_boxes' = ap (λ (r : TreeReading). r.boxes) (sym on_it.then_rest) ∙ no_boxes in
    let others = sizes_where_read may_leave key nodes on_it.after.terms (on_it.after.boxes ++ boxes) on_it.rest_read
    no_terms' no_boxes' in
    let is = taken may_leave key box first terms on_it.after on_it.is in
    let few = takes_few (length key) first terms is.stands in
    let left = boxes_left may_leave key box first terms on_it.after on_it.is in
    let all_boxes = length-append on_it.after.boxes boxes in
    let splits = inner_count-cons first nodes in
    let left_terms = ap length is.terms ∙ length-drop (taken_by first) terms in
    record {
      nodes_are = omega (arith, others.nodes_are, left, all_boxes, splits);
      terms_are = omega (arith, others.terms_are, left, all_boxes, splits, few, left_terms);
    }
