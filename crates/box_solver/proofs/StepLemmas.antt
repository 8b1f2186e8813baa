-- A search from node to node: what it has built stays a search tree, and at its end it refutes the key or is open.
use Rattle.std.proofs.Common.{◌≡◌, ℕ, ◌+◌, ◌≤◌, Bool, true, false, cond, ◌||◌, ◌&&◌, Option, Some, None}
use Rattle.std.proofs.Common.{List, [], ◌∷◌, ◌++◌, length, take, drop, replicate, nat_le, refl, ap, sym, ◌∙◌}
use Rattle.std.proofs.Common.{subst, arith}
use Rattle.std.specs.Option.{option_or}
use Rattle.std.specs.List.{All, list_any}
use Rattle.std.proofs.lemmas.Bool.{and_parts, both_ways, le-leb, leb-true}
use Rattle.std.proofs.Math.Seq.{take-length, drop-length}
use Rattle.std.proofs.lemmas.List.Elements.{All-nil, All-cons, All-append, All-head, All-tail}
use Rattle.std.proofs.lemmas.List.Folds.{list_any-append, find-append}
use Rattle.lin_model.specs.KeyAtom.{PlainKeyAtom}
use Rattle.lin_model.specs.Key.{key_width}
use Rattle.lin_model.specs.Lists.{IsSomeAnd-found}
use Rattle.refutation.specs.declared.leaf.LeafTerm.{LeafTerm}
use Rattle.refutation.specs.declared.node.Node.{Node}
use Rattle.refutation.specs.declared.node.Node.TheVariants.{Split, NeSplit, Combo, Fixed, Empty, Left}
use Rattle.refutation.specs.declared.side.Side.{Side}
use Rattle.refutation.specs.Bounds.{key_bounds}
use Rattle.refutation.specs.Box.{PlainBox, root_box}
use Rattle.refutation.specs.Boxed.{IsBoxed, HasShortSides}
use Rattle.refutation.specs.Leaf.{PlainLeaf, combo, fixed, empty, combo_closes, Closes}
use Rattle.refutation.specs.Reading.{treated, names_ne, Met, TreeReading, read_over, Refutes}
use Rattle.refutation.specs.ReadingFacts.{read-some}
use Rattle.refutation.specs.SearchOrder.{step}
use Rattle.refutation.specs.SearchTree.{is_inner, is_left, inner_count, search_reading, undecided_boxes, first_left}
use Rattle.refutation.specs.SearchTree.{IsFair, KeepsOrder, IsUndecided, IsSearchTree, IsOpenTree}
use Rattle.refutation.specs.Laws.{CutsLeaveProperHalves}
use Rattle.box_solver.specs.Nodes.{leaf_node, leaf_terms, halves}
use Rattle.box_solver.specs.Progress.{IsSearchBox, HasRead}
use Rattle.box_solver.specs.Steps.{SplitsFairly}
use Rattle.box_solver.proofs.ReadLemmas.{joined, read-append, read-strictly, no_left-met, lefts_met, lefts-read}
use Rattle.box_solver.proofs.ReadLemmas.{lefts-in_order, lefts-inner, inner_count-append, NoInnerAfterLeft-append}
use Rattle.box_solver.proofs.HalvesLemmas.{halves-fit, split-treats}

-- ---- the start

pub read-start : (key : List PlainKeyAtom) → key_width key ≤ 64 → IsBoxed key → HasShortSides (key_bounds key)
    → HasRead key 0 [] [] (root_box key ∷ [])
unfolding read_over
read-start key narrow boxed short = record {
  narrow = narrow;
  search = record { no_rest = refl; no_terms = refl; in_order = All-nil (KeepsOrder key) };
  left = refl;
  inner = refl;
  no_left = refl;
  fit = All-cons (IsSearchBox key) (root_box key) [] (record {
    boxed = boxed;
    short = short;
    ne_sides = All-nil (λ (side : Side). names_ne key side.atom ≡ true);
    apart = λ i j d less lt. absurd (omega (arith, lt));
  }) (All-nil (IsSearchBox key));
}

-- ---- more nodes

-- the reading of more nodes over the boxes that a search tree left
read-behind : (key : List PlainKeyAtom) (nodes more : List Node) (terms terms' : List LeafTerm) (boxes : List PlainBox)
    (s : TreeReading)
    → IsSearchTree key nodes terms → undecided_boxes key nodes terms ≡ boxes → read_over true key more terms' boxes ≡ s
    → search_reading key (nodes ++ more) (terms ++ terms') ≡ joined (search_reading key nodes terms) s
read-behind key nodes more terms terms' boxes s h left is =
    let r = search_reading key nodes terms in
    read-append key nodes more terms terms' (root_box key ∷ []) h.no_rest
    ∙ ap (λ (ts : List LeafTerm). joined r (read_over true key more (ts ++ terms') r.boxes)) h.no_terms
    ∙ ap (λ (bs : List PlainBox). joined r (read_over true key more terms' bs)) left ∙ ap (joined r) is

-- where that reading is one of a search, so is the whole
search-behind : (key : List PlainKeyAtom) (nodes more : List Node) (terms terms' : List LeafTerm) (s : TreeReading)
    → IsSearchTree key nodes terms → search_reading key (nodes ++ more) (terms ++ terms')
    ≡ joined (search_reading key nodes terms) s
    → s.rest ≡ [] → s.terms ≡ [] → All (KeepsOrder key) s.met → IsSearchTree key (nodes ++ more) (terms ++ terms')
search-behind key nodes more terms terms' s h is no_rest no_terms order = record {
  no_rest = ap (λ (r : TreeReading). r.rest) is ∙ no_rest;
  no_terms = ap (λ (r : TreeReading). r.terms) is ∙ no_terms;
  in_order = subst (λ (r : TreeReading). All (KeepsOrder key) r.met) (sym is)
      (All-append (KeepsOrder key) (search_reading key nodes terms).met s.met h.in_order order);
}

-- ---- one node more

-- one node, which finds this box and leaves those
abbrev pub one_met : Node → PlainBox → List PlainBox → TreeReading
one_met node box boxes = record { met = record { node = node; box = box } ∷ []; rest = []; terms = []; boxes = boxes }

-- a node read over one box, as the last of a tree
pub read-one : (may_leave : Bool) (key : List PlainKeyAtom) (node : Node) (terms : List LeafTerm) (box : PlainBox)
    (boxes rest : List PlainBox)
    → treated may_leave key box node terms ≡ Some (record { boxes = boxes; terms = [] })
    → read_over may_leave key (node ∷ []) terms (box ∷ rest) ≡ one_met node box (boxes ++ rest)
unfolding read_over
read-one may_leave key node terms box boxes rest is =
    read-some may_leave key node [] terms box rest (record { boxes = boxes; terms = [] }) is

pub read-node : (key : List PlainKeyAtom) (splits : ℕ) (nodes : List Node) (terms : List LeafTerm) (box : PlainBox)
    (rest boxes : List PlainBox) (node : Node) (terms' : List LeafTerm)
    → HasRead key splits nodes terms (box ∷ rest) → KeepsOrder key (record { node = node; box = box })
    → treated true key box node terms' ≡ Some (record { boxes = boxes; terms = [] }) → is_left node ≡ false
    → All (IsSearchBox key) boxes
    → HasRead key (splits + inner_count (node ∷ [])) (nodes ++ node ∷ []) (terms ++ terms') (boxes ++ rest)
read-node key splits nodes terms box rest boxes node terms' h keeps is not_left fit =
    let here : Met = record { node = node; box = box } in
    let one = one_met node box (boxes ++ rest) in
    let whole = read-behind key nodes (node ∷ []) terms terms' (box ∷ rest) one h.search h.left
    (read-one true key node terms' box boxes rest is) in
    record {
      narrow = h.narrow;
      search = search-behind key nodes (node ∷ []) terms terms' one h.search whole refl refl
          (All-cons (KeepsOrder key) here [] keeps (All-nil (KeepsOrder key)));
      left = ap (λ (r : TreeReading). r.boxes) whole;
      inner = inner_count-append nodes (node ∷ []) ∙ ap (λ (n : ℕ). n + inner_count (node ∷ [])) h.inner;
      no_left = list_any-append is_left nodes (node ∷ [])
          ∙ ap (λ (b : Bool). b || list_any is_left (node ∷ [])) h.no_left ∙ ap (λ (b : Bool). b || false) not_left;
      fit = All-append (IsSearchBox key) boxes rest fit (All-tail (IsSearchBox key) box rest h.fit);
    }

-- a closed box
leaf-treats : (key : List PlainKeyAtom) (box : PlainBox) (leaf : PlainLeaf) → Closes key box leaf
    → treated true key box (leaf_node leaf) (leaf_terms leaf) ≡ Some (record { boxes = []; terms = [] })
unfolding treated
leaf-treats key box (combo terms) closes =
    let n = length terms in
    ap (λ (b : Bool). cond (b && combo_closes key box (take n terms))
    (Some (record { boxes = []; terms = drop n terms })) None) (le-leb n n (omega arith))
    ∙ ap (λ (ts : List LeafTerm). cond (combo_closes key box ts) (Some (record { boxes = []; terms = drop n terms }))
    None) (take-length terms)
    ∙ ap (λ (b : Bool). cond b (Some (record { boxes = []; terms = drop n terms })) None) closes
    ∙ ap (λ (ts : List LeafTerm). Some (record { boxes = []; terms = ts })) (drop-length terms)
leaf-treats key box (fixed i) closes =
    ap (λ (b : Bool). cond b (Some (record { boxes = []; terms = [] })) None) closes
leaf-treats key box empty closes =
    ap (λ (b : Bool). cond b (Some (record { boxes = []; terms = [] })) None) closes

-- a leaf takes eight terms at most
pub closes-few : (key : List PlainKeyAtom) (box : PlainBox) (leaf : PlainLeaf) → Closes key box leaf
    → length (leaf_terms leaf) ≤ 8
unfolding combo_closes
closes-few key box (combo terms) closes =
    leb-true (length terms) 8 (and_parts (nat_le (length terms) 8) _ (and_parts (nat_le 1 (length terms)) _ closes).1).0
closes-few key box (fixed i) closes = omega arith
closes-few key box empty closes = omega arith

-- no leaf is an inner node, and none is a Left
leaf-outer : (leaf : PlainLeaf) → (is_inner (leaf_node leaf) ≡ false) × (is_left (leaf_node leaf) ≡ false)
    × (inner_count (leaf_node leaf ∷ []) ≡ 0)
leaf-outer (combo terms) = (refl, refl, refl)
leaf-outer (fixed i) = (refl, refl, refl)
leaf-outer empty = (refl, refl, refl)

pub read-closed : (key : List PlainKeyAtom) (splits : ℕ) (nodes : List Node) (terms : List LeafTerm) (box : PlainBox)
    (rest : List PlainBox) (leaf : PlainLeaf) → HasRead key splits nodes terms (box ∷ rest) → Closes key box leaf
    → HasRead key splits (nodes ++ leaf_node leaf ∷ []) (terms ++ leaf_terms leaf) rest
read-closed key splits nodes terms box rest leaf h closes =
    let outer = leaf-outer leaf in
    subst (λ n. HasRead key n (nodes ++ leaf_node leaf ∷ []) (terms ++ leaf_terms leaf) rest)
    (omega (arith, outer.2))
    (read-node key splits nodes terms box rest [] (leaf_node leaf) (leaf_terms leaf) h
    (λ inner. absurd (both_ways (is_inner (leaf_node leaf)) outer.0 inner)) (leaf-treats key box leaf closes) outer.1
    (All-nil (IsSearchBox key)))

-- a box that is split
pub split-inner : (key : List PlainKeyAtom) (box : PlainBox) (node : Node) → SplitsFairly key box node
    → (inner_count (node ∷ []) ≡ 1) × (is_left node ≡ false) × IsFair key box node × (length (halves node box) ≡ 2)
split-inner key box (Split v cut) f = (refl, refl, f.fair, refl)
split-inner key box (NeSplit i) f = (refl, refl, f.fair, refl)
split-inner key box (Combo count) f = absurd f
split-inner key box (Fixed i) f = absurd f
split-inner key box Empty f = absurd f
split-inner key box Left f = absurd f

pub read-split : CutsLeaveProperHalves → (key : List PlainKeyAtom) (splits : ℕ) (nodes : List Node)
    (terms : List LeafTerm) (box : PlainBox) (rest : List PlainBox) (node : Node)
    → HasRead key splits nodes terms (box ∷ rest) → IsUndecided key box → SplitsFairly key box node
    → step key box ≡ Some node
    → HasRead key (splits + 1) (nodes ++ node ∷ []) (terms ++ []) (halves node box ++ rest)
read-split leave key splits nodes terms box rest node h undecided fair is =
    let s = All-head (IsSearchBox key) box rest h.fit in
    let inner = split-inner key box node fair in
    subst (λ n. HasRead key (splits + n) (nodes ++ node ∷ []) (terms ++ []) (halves node box ++ rest)) inner.0
    (read-node key splits nodes terms box rest (halves node box) node [] h
    (λ _. record { fair = inner.2; undecided = undecided; in_order = is }) (split-treats leave key box node fair s)
    inner.1 (halves-fit leave key box node fair s))

-- ---- the end

pub read-refutes : (key : List PlainKeyAtom) (splits : ℕ) (nodes : List Node) (terms : List LeafTerm)
    → HasRead key splits nodes terms [] → Refutes key nodes terms
read-refutes key splits nodes terms h =
    let same = read-strictly key nodes terms (root_box key ∷ []) h.no_left h.search.no_rest in
    record {
      no_rest = ap (λ (r : TreeReading). r.rest) same ∙ h.search.no_rest;
      no_terms = ap (λ (r : TreeReading). r.terms) same ∙ h.search.no_terms;
      no_boxes = ap (λ (r : TreeReading). r.boxes) same ∙ h.left;
    }

pub read-open : (key : List PlainKeyAtom) (splits : ℕ) (nodes : List Node) (terms : List LeafTerm) (box : PlainBox)
    (rest : List PlainBox)
    → HasRead key splits nodes terms (box ∷ rest) → IsUndecided key box
    → IsOpenTree key splits (nodes ++ replicate (length (box ∷ rest)) Left) (terms ++ [])
read-open key splits nodes terms box rest h undecided =
    let lefts = replicate (length (box ∷ rest)) Left in
    let met = (search_reading key nodes terms).met in
    let marked : TreeReading = record { met = lefts_met (box ∷ rest); rest = []; terms = []; boxes = [] } in
    let whole = read-behind key nodes lefts terms [] (box ∷ rest) marked h.search h.left (lefts-read key (box ∷ rest))
    in
    let first : first_left (search_reading key (nodes ++ lefts) (terms ++ [])).met
    ≡ Some (record { node = Left; box = box }) = ap (λ (r : TreeReading). first_left r.met) whole
    ∙ find-append (λ m. is_left m.node) met (lefts_met (box ∷ rest))
    ∙ ap (λ (o : Option Met). option_or o (Some (record { node = Left; box = box })))
    (no_left-met key nodes terms (root_box key ∷ []) h.no_left h.search.no_rest) in
    record {
      search = search-behind key nodes lefts terms [] marked h.search whole refl refl (lefts-in_order key (box ∷ rest));
      inner = inner_count-append nodes lefts ∙ ap (λ (n : ℕ). inner_count nodes + n) (lefts-inner (length (box ∷ rest)))
          ∙ omega (arith, h.inner);
      no_boxes = ap (λ (r : TreeReading). r.boxes) whole;
      left_last = NoInnerAfterLeft-append nodes (length (box ∷ rest)) h.no_left;
      first = IsSomeAnd-found (first_left (search_reading key (nodes ++ lefts) (terms ++ [])).met)
          (λ (m : Met). IsUndecided key m.box) (record { node = Left; box = box }) first undecided;
    }
