-- The nodes of a tree that closes its boxes may stand in a body, and with their terms they are all of the tree.
use Rattle.std.proofs.Common.{◌≡◌, ℕ, ◌^◌, ◌<◌, ◌≤◌, ℤ, false, List, [], ◌∷◌, ◌++◌, length, map, take, drop, refl}
use Rattle.std.proofs.Common.{sym, ap, subst}
use Rattle.std.proofs.Common.{◌∙◌, arith}
use Rattle.std.specs.List.{All, flat_map}
use Rattle.std.specs.Prelude.{unsigned_abs, Some}
use Rattle.std.proofs.lemmas.List.{length-take, take-append-drop}
use Rattle.std.proofs.lemmas.List.Elements.{All-nil, All-cons, All-head, All-tail, All-take, All-drop}
use Rattle.lin_model.specs.declared.key.TheConstants.{MAX_KEY_ATOMS}
use Rattle.lin_model.specs.KeyAtom.{PlainKeyAtom}
use Rattle.refutation.specs.declared.leaf.LeafTerm.{LeafTerm}
use Rattle.refutation.specs.declared.leaf.On.{On}
use Rattle.refutation.specs.declared.leaf.On.TheVariants.{Atom as OnAtom, Side as OnSide}
use Rattle.refutation.specs.declared.node.Node.{Node}
use Rattle.refutation.specs.declared.node.Node.TheVariants.{Split, NeSplit, Combo, Fixed, Empty, Left}
use Rattle.refutation.specs.Box.{PlainBox}
use Rattle.refutation.specs.Reading.{Treated, treated, TreeReading, read_over}
use Rattle.refutation.specs.ReadingFacts.{first_is_read}
use Rattle.refutation.specs.SearchTree.{is_left}
use Rattle.entry_codec.specs.Numbers.{small, short, integer}
use Rattle.entry_codec.specs.Fields.{split_var, cut, reference, leaf_count, factor, node_kind, on_kind}
use Rattle.entry_codec.specs.Nodes.{on, leaf_term, split, ne_split, combo, fixed, empty, node_fields, node}
use Rattle.entry_codec.specs.Nodes.{node_of, terms_of, nodes_of}
use Rattle.entry_codec.specs.Writing.{taken_by, HasShortSide, NamesShortSides}
use Rattle.entry_codec.proofs.KeyMay.{fits_eight, MayFollow-alike}
use Rattle.entry_codec.proofs.NodesRead.{OnStands, TermStands, NodeStands, taken}

-- ---- terms

on_may : (atoms : ℕ) (o : On) → atoms ≤ MAX_KEY_ATOMS → OnStands atoms o → HasShortSide o → on.may o
unfolding on on_kind reference short
on_may atoms (OnAtom i) few stands short_side = (tt, omega (arith, stands))
on_may atoms (OnSide k) few stands short_side = (tt, short_side)

leaf_term_may : (atoms : ℕ) (t : LeafTerm) → atoms ≤ MAX_KEY_ATOMS → TermStands atoms t
    → HasShortSide t.on → leaf_term.may t
unfolding leaf_term factor integer
leaf_term_may atoms t few stands short_side = (
  on_may atoms t.on few stands.on short_side,
  (fits_eight t.factor (omega (arith, stands.factor)), stands.factor),
)

leaf_terms_may : (atoms : ℕ) (terms : List LeafTerm) → atoms ≤ MAX_KEY_ATOMS
    → All (TermStands atoms) terms → NamesShortSides terms → All leaf_term.may terms
leaf_terms_may atoms [] few stand short_sides = All-nil leaf_term.may
leaf_terms_may atoms (t ∷ ts) few stand short_sides =
    All-cons leaf_term.may t ts
    (leaf_term_may atoms t few (All-head (TermStands atoms) t ts stand)
    (All-head (λ (u : LeafTerm). HasShortSide u.on) t ts short_sides))
    (leaf_terms_may atoms ts few (All-tail (TermStands atoms) t ts stand)
    (All-tail (λ (u : LeafTerm). HasShortSide u.on) t ts short_sides))

-- ---- nodes

split_may : (v : ℕ) (at : ℤ) → v < 64 → unsigned_abs at ≤ 2 ^ 32 → node.may (split v at)
unfolding node node_fields node_kind split_var cut small integer
split_may v at lt le = (tt, ((omega arith, lt), (fits_eight at (omega (arith, le)), le)))

ne_split_may : (atoms i : ℕ) → atoms ≤ MAX_KEY_ATOMS → i < atoms → node.may (ne_split i)
unfolding node node_fields node_kind reference short
ne_split_may atoms i few lt = (tt, omega (arith, few))

fixed_may : (atoms i : ℕ) → atoms ≤ MAX_KEY_ATOMS → i < atoms → node.may (fixed i)
unfolding node node_fields node_kind reference short
fixed_may atoms i few lt = (tt, omega (arith, few))

empty_may : node.may empty
unfolding node node_fields node_kind
empty_may = (tt, tt)

combo_may : (terms : List LeafTerm) → 1 ≤ length terms → length terms ≤ 8 → All leaf_term.may terms
    → node.may (combo terms)
unfolding node node_fields node_kind leaf_count small
combo_may terms some few may = (tt, ((omega (arith, few), (some, few)), (refl, MayFollow-alike leaf_term terms may)))

-- ---- trees

-- the nodes of a tree, with their terms, are all of the tree, and may stand where the numbers of sides fit their field
pub record AreWhole (nodes : List Node) (terms : List LeafTerm) : Type 0 where
  pub may : NamesShortSides terms → All node.may (nodes_of nodes terms)
  pub nodes_back : map node_of (nodes_of nodes terms) ≡ nodes
  pub terms_back : flat_map terms_of (nodes_of nodes terms) ≡ terms

-- one more node in front
node_more : (atoms : ℕ) (first : Node) (nodes : List Node) (terms : List LeafTerm) → atoms ≤ MAX_KEY_ATOMS
    → NodeStands atoms first terms → is_left first ≡ false
    → AreWhole nodes (drop (taken_by first) terms) → AreWhole (first ∷ nodes) terms
node_more atoms (Split v at) nodes terms few stands no_left others = record {
  may = λ short. All-cons node.may (split v at) (nodes_of nodes terms) (split_may v at stands.0 stands.1)
      (others.may short);
  nodes_back = ap (λ (ns : List Node). Split v at ∷ ns) others.nodes_back;
  terms_back = others.terms_back;
}
node_more atoms (NeSplit i) nodes terms few stands no_left others = record {
  may = λ short. All-cons node.may (ne_split i) (nodes_of nodes terms) (ne_split_may atoms i few stands)
      (others.may short);
  nodes_back = ap (λ (ns : List Node). NeSplit i ∷ ns) others.nodes_back;
  terms_back = others.terms_back;
}
node_more atoms (Combo count) nodes terms few stands no_left others =
    let own : List LeafTerm = take count terms in
    let len : length own ≡ count = omega (arith, length-take count terms, stands.enough) in
    record {
      may = λ short. All-cons node.may (combo own) (nodes_of nodes (drop count terms))
          (combo_may own (omega (arith, len, stands.some)) (omega (arith, len, stands.few))
          (leaf_terms_may atoms own few stands.stand
          (All-take (λ (t : LeafTerm). HasShortSide t.on) count terms short)))
          (others.may (All-drop (λ (t : LeafTerm). HasShortSide t.on) count terms short));
      nodes_back = ap (λ (n : ℕ). Combo n ∷ map node_of (nodes_of nodes (drop count terms))) len
          ∙ ap (λ (ns : List Node). Combo count ∷ ns) others.nodes_back;
      terms_back = ap (λ (ts : List LeafTerm). own ++ ts) others.terms_back ∙ take-append-drop count terms;
    }
node_more atoms (Fixed i) nodes terms few stands no_left others = record {
  may = λ short. All-cons node.may (fixed i) (nodes_of nodes terms) (fixed_may atoms i few stands)
      (others.may short);
  nodes_back = ap (λ (ns : List Node). Fixed i ∷ ns) others.nodes_back;
  terms_back = others.terms_back;
}
node_more atoms Empty nodes terms few stands no_left others = record {
  may = λ short. All-cons node.may empty (nodes_of nodes terms) empty_may (others.may short);
  nodes_back = ap (λ (ns : List Node). Empty ∷ ns) others.nodes_back;
  terms_back = others.terms_back;
}
node_more atoms Left nodes terms few stands no_left others = absurd (cc)

-- where Left may not stand, none is read
not_left : (key : List PlainKeyAtom) (box : PlainBox) (first : Node) (terms : List LeafTerm) (after : Treated)
    → treated false key box first terms ≡ Some after → is_left first ≡ false
unfolding treated
not_left key box (Split v at) terms after h = refl
not_left key box (NeSplit i) terms after h = refl
not_left key box (Combo count) terms after h = refl
not_left key box (Fixed i) terms after h = refl
not_left key box Empty terms after h = refl
not_left key box Left terms after h = absurd (cc)

-- nodes that are all read, with no term to spare
pub whole_where_read : (key : List PlainKeyAtom) (nodes : List Node) (terms : List LeafTerm) (boxes : List PlainBox)
    → length key ≤ MAX_KEY_ATOMS → (read_over false key nodes terms boxes).rest ≡ []
    → (read_over false key nodes terms boxes).terms ≡ [] → AreWhole nodes terms
unfolding read_over
whole_where_read key [] terms boxes few no_rest no_terms =
    record { may = λ short. All-nil node.may; nodes_back = refl; terms_back = sym no_terms }
whole_where_read key (first ∷ nodes) terms [] few no_rest no_terms = absurd (cc)
whole_where_read key (first ∷ nodes) terms (box ∷ boxes) few no_rest no_terms =
    let on_it = first_is_read false key first nodes terms box boxes no_rest in
    let no_terms' = ap (λ (r : TreeReading). r.terms) (sym on_it.then_rest) ∙ no_terms in
    let is = taken false key box first terms on_it.after on_it.is in
    let others = whole_where_read key nodes on_it.after.terms (on_it.after.boxes ++ boxes) few on_it.rest_read
    no_terms' in
    node_more (length key) first nodes terms few is.stands
    (not_left key box first terms on_it.after on_it.is)
    (subst (λ (ts : List LeafTerm). AreWhole nodes ts) is.terms others)
