-- One node of a tree after another: what the code's answers say of the reading.
use Rattle.std.proofs.Common.{◌≡◌, ℕ, ℤ, ◌+◌, ◌-◌, ◌<◌, ◌≤◌, Bool, true, false, cond, ◌&&◌, Option, Some, None, Result}
use Rattle.std.proofs.Common.{IfOk, List, [], ◌∷◌, ◌++◌, length, get_or, take, drop, nat_le, inl, inr, refl, ap, sym}
use Rattle.std.proofs.Common.{◌∙◌, subst, arith}
use Rattle.std.proofs.lemmas.List.{drop_more, length-drop, drop-drop}
use Rattle.std.proofs.Math.Seq.{take-length}
use Rattle.std.proofs.Math.ListN.{drop_of_length-le}
use Rattle.std.proofs.lemmas.Result.{IfOk-weaker}
use Rattle.std.proofs.lemmas.Bool.{leb-true, and_parts}
use Rattle.lin_model.specs.KeyAtom.{PlainKeyAtom}
use Rattle.refutation.specs.declared.leaf.LeafTerm.{LeafTerm}
use Rattle.refutation.specs.declared.node.Node.{Node}
use Rattle.refutation.specs.declared.node.Node.TheVariants.{Split, NeSplit, Combo, Fixed, Empty, Left}
use Rattle.refutation.specs.Bounds.{is_empty}
use Rattle.refutation.specs.Box.{PlainBox, left_half, right_half, on_side}
use Rattle.refutation.specs.Leaf.{combo_closes, fixed_closes}
use Rattle.refutation.specs.Reading.{is_split, names_ne, Treated, treated, TreeReading, nothing_read, behind, read_over}
use Rattle.refutation.specs.Endings.{ClosesAll, StopsAt, LeavesBoxes, LeavesMore}
use Rattle.refutation.specs.ReadingFacts.{read-some, read-none}
use Rattle.refutation.specs.Facts.{OnFirst-weaker}
use Rattle.refutation.specs.Walk.{OnFirst, Puts, Treats}

-- ---- one node

Treats-from_choice : (b : Bool) (boxes : List PlainBox) (n : ℕ) (terms : List LeafTerm) (taken : Option ℕ)
    (rest new : List PlainBox) → (b ≡ true → n ≤ length terms) → Puts b boxes n taken rest new
    → Treats (cond b (Some (record { boxes = boxes; terms = drop n terms })) None) terms taken rest new
Treats-from_choice false boxes n terms taken rest new within h = h
Treats-from_choice true boxes n terms taken rest new within h = (n, h.0, within refl, refl, h.1)

pub Treats-split : (key : List PlainKeyAtom) (box : PlainBox) (node : Node) (v : ℕ) (cut cut' : ℤ)
    (terms : List LeafTerm) (taken : Option ℕ) (rest new : List PlainBox) → node ≡ Split v cut → cut' ≡ cut
    → Puts (is_split v cut') (left_half box v cut' ∷ right_half box v cut' ∷ []) 0 taken rest new
    → Treats (treated false key box node terms) terms taken rest new
unfolding treated
Treats-split key box node v cut cut' terms taken rest new is same h =
    subst (λ (n : Node). Treats (treated false key box n terms) terms taken rest new) (ap (Split v) same ∙ sym is)
    (Treats-from_choice (is_split v cut') (left_half box v cut' ∷ right_half box v cut' ∷ []) 0 terms taken rest new
    (λ _. omega arith) h)

pub Treats-split_ne : (key : List PlainKeyAtom) (box : PlainBox) (node : Node) (i : ℕ) (terms : List LeafTerm)
    (taken : Option ℕ) (rest new : List PlainBox) → node ≡ NeSplit i
    → Puts (names_ne key i) (on_side box i false ∷ on_side box i true ∷ []) 0 taken rest new
    → Treats (treated false key box node terms) terms taken rest new
unfolding treated
Treats-split_ne key box node i terms taken rest new is h =
    subst (λ (n : Node). Treats (treated false key box n terms) terms taken rest new) (sym is)
    (Treats-from_choice (names_ne key i) (on_side box i false ∷ on_side box i true ∷ []) 0 terms taken rest new
    (λ _. omega arith) h)

pub Treats-combo : (key : List PlainKeyAtom) (box : PlainBox) (node : Node) (count n : ℕ) (terms : List LeafTerm)
    (taken : Option ℕ) (rest new : List PlainBox) → node ≡ Combo count → n ≡ count
    → Puts (nat_le n (length terms) && combo_closes key box (take n terms)) [] n taken rest new
    → Treats (treated false key box node terms) terms taken rest new
unfolding treated
Treats-combo key box node count n terms taken rest new is same h =
    subst (λ (m : Node). Treats (treated false key box m terms) terms taken rest new) (ap Combo same ∙ sym is)
    (Treats-from_choice (nat_le n (length terms) && combo_closes key box (take n terms)) [] n terms taken rest new
    (λ yes'. leb-true n (length terms) (and_parts (nat_le n (length terms)) (combo_closes key box (take n terms))
    yes').0) h)

pub Treats-fixed : (key : List PlainKeyAtom) (box : PlainBox) (node : Node) (i : ℕ) (closed : Bool)
    (terms : List LeafTerm) (taken : Option ℕ) (rest new : List PlainBox) → node ≡ Fixed i
    → closed ≡ fixed_closes key box.bounds i → Puts closed [] 0 taken rest new
    → Treats (treated false key box node terms) terms taken rest new
unfolding treated
Treats-fixed key box node i closed terms taken rest new is same h =
    subst (λ (n : Node). Treats (treated false key box n terms) terms taken rest new) (sym is)
    (Treats-from_choice (fixed_closes key box.bounds i) [] 0 terms taken rest new (λ _. omega arith)
    (subst (λ (b : Bool). Puts b [] 0 taken rest new) same h))

pub Treats-empty : (key : List PlainKeyAtom) (box : PlainBox) (node : Node) (closed : Bool) (terms : List LeafTerm)
    (taken : Option ℕ) (rest new : List PlainBox) → node ≡ Empty → closed ≡ is_empty box.bounds
    → Puts closed [] 0 taken rest new → Treats (treated false key box node terms) terms taken rest new
unfolding treated
Treats-empty key box node closed terms taken rest new is same h =
    subst (λ (n : Node). Treats (treated false key box n terms) terms taken rest new) (sym is)
    (Treats-from_choice (is_empty box.bounds) [] 0 terms taken rest new (λ _. omega arith)
    (subst (λ (b : Bool). Puts b [] 0 taken rest new) same h))

pub Treats-left : (key : List PlainKeyAtom) (box : PlainBox) (node : Node) (terms : List LeafTerm)
    (rest new : List PlainBox) → node ≡ Left → Treats (treated false key box node terms) terms None rest new
unfolding treated
Treats-left key box node terms rest new is =
    subst (λ (n : Node). Treats (treated false key box n terms) terms None rest new) (sym is) refl

-- what a call puts in the place of the first box is what the node does to it
pub TreatsFirst-from_puts : {E : Type 0} (r : Result (Option ℕ) E) (key : List PlainKeyAtom) (node : Node)
    (terms : List LeafTerm)
    (old new : List PlainBox) (allowed : PlainBox → Bool) (boxes : PlainBox → List PlainBox) (n : ℕ)
    → ((box : PlainBox) (rest : List PlainBox) (taken : Option ℕ) → old ≡ box ∷ rest
    → Puts (allowed box) (boxes box) n taken rest new → Treats (treated false key box node terms) terms taken rest new)
    → IfOk r (λ taken. OnFirst old (λ box rest. Puts (allowed box) (boxes box) n taken rest new))
    → IfOk r (λ taken. OnFirst old (λ box rest. Treats (treated false key box node terms) terms taken rest new))
TreatsFirst-from_puts r key node terms old new allowed boxes n does h =
    IfOk-weaker r (λ taken. OnFirst old (λ box rest. Puts (allowed box) (boxes box) n taken rest new))
    (λ taken. OnFirst old (λ box rest. Treats (treated false key box node terms) terms taken rest new))
    (λ taken f. OnFirst-weaker old (λ box rest. Puts (allowed box) (boxes box) n taken rest new)
    (λ box rest. Treats (treated false key box node terms) terms taken rest new)
    (λ box rest is puts. does box rest taken is puts) f) h

-- ---- all nodes

-- of the whole reading this many nodes are read, and the rest reads so
pub record IsBehind (n : ℕ) (r whole : TreeReading) : Type 0 where
  pub met : length whole.met ≡ n + length r.met
  pub rest : whole.rest ≡ r.rest
  pub terms : whole.terms ≡ r.terms
  pub boxes : whole.boxes ≡ r.boxes

pub behind-start : (r whole : TreeReading) → r ≡ whole → IsBehind 0 r whole
behind-start r whole same = record {
  met = ap (λ (s : TreeReading). length s.met) (sym same) ∙ omega arith;
  rest = ap (λ (s : TreeReading). s.rest) (sym same);
  terms = ap (λ (s : TreeReading). s.terms) (sym same);
  boxes = ap (λ (s : TreeReading). s.boxes) (sym same);
}

behind-more : (n : ℕ) (node : Node) (box : PlainBox) (r whole : TreeReading) → IsBehind n (behind node box r) whole
    → IsBehind (n + 1) r whole
behind-more n node box r whole h = record {
  met = omega (arith, h.met);
  rest = h.rest;
  terms = h.terms;
  boxes = h.boxes;
}

-- the node of this number, which finds the first box
node-at : (key : List PlainKeyAtom) (i : ℕ) (nodes : List Node) (d : Node) (terms : List LeafTerm) (box : PlainBox)
    (boxes rest : List PlainBox)
    → i < length nodes → boxes ≡ box ∷ rest
    → read_over false key (drop i nodes) terms boxes
    ≡ read_over false key (get_or nodes i d ∷ drop (i + 1) nodes) terms (box ∷ rest)
node-at key i nodes d terms box boxes rest lt first =
    ap (λ (ns : List Node). read_over false key ns terms boxes) (drop_more nodes i d lt)
    ∙ ap (read_over false key (get_or nodes i d ∷ drop (i + 1) nodes) terms) first

treats_none : (o : Option Treated) (terms : List LeafTerm) (taken : Option ℕ) (rest new : List PlainBox) → taken ≡ None
    → Treats o terms taken rest new → o ≡ None
treats_none None terms taken rest new none h = refl
treats_none (Some r) terms taken rest new none h = absurd (cc)

treats_some : (o : Option Treated) (terms : List LeafTerm) (taken : Option ℕ) (n : ℕ) (rest new : List PlainBox)
    → taken ≡ Some n → Treats o terms taken rest new → (r : Treated) × (o ≡ Some r) × (n ≤ length terms)
    × (r.terms ≡ drop n terms) × (new ≡ r.boxes ++ rest)
treats_some None terms taken n rest new some h = absurd (cc)
treats_some (Some r) terms taken n rest new some h =
    let same : h.0 ≡ n = cc in
    (r, refl, subst (λ m. m ≤ length terms) same h.2, h.3 ∙ ap (λ (m : ℕ). drop m terms) same, h.4)

-- the terms taken so far, and those that the node takes
pub reading-step : (key : List PlainKeyAtom) (i : ℕ) (nodes : List Node) (d : Node) (terms : List LeafTerm) (at n : ℕ)
    (box : PlainBox) (boxes rest new : List PlainBox) (taken : Option ℕ) (whole : TreeReading)
    → i < length nodes → at ≤ length terms → boxes ≡ box ∷ rest → taken ≡ Some n
    → Treats (treated false key box (get_or nodes i d) (drop at terms)) (drop at terms) taken rest new
    → IsBehind i (read_over false key (drop i nodes) (drop at terms) boxes) whole
    → IsBehind (i + 1) (read_over false key (drop (i + 1) nodes) (drop (at + n) terms) new) whole
    × (at + n ≤ length terms)
reading-step key i nodes d terms at n box boxes rest new taken whole lt within first some h before =
    let on = treats_some (treated false key box (get_or nodes i d) (drop at terms)) (drop at terms) taken n rest new
    some h in
    let left : read_over false key (drop (i + 1) nodes) on.0.terms (on.0.boxes ++ rest)
    ≡ read_over false key (drop (i + 1) nodes) (drop (at + n) terms) new =
    ap (λ (ts : List LeafTerm). read_over false key (drop (i + 1) nodes) ts (on.0.boxes ++ rest))
    (on.3 ∙ drop-drop n at terms) ∙ ap (read_over false key (drop (i + 1) nodes) (drop (at + n) terms)) (sym on.4) in
    let is = node-at key i nodes d (drop at terms) box boxes rest lt first
    ∙ read-some false key (get_or nodes i d) (drop (i + 1) nodes) (drop at terms) box rest on.0 on.1
    ∙ ap (behind (get_or nodes i d) box) left in (
      behind-more i (get_or nodes i d) box (read_over false key (drop (i + 1) nodes) (drop (at + n) terms) new) whole
          (subst (λ (r : TreeReading). IsBehind i r whole) is before),
      omega (arith, on.2, length-drop at terms),
    )

-- ---- where it stops

-- a node is left over
pub reading-goes_on : (key : List PlainKeyAtom) (i : ℕ) (nodes : List Node) (d : Node) (terms : List LeafTerm)
    (boxes : List PlainBox) (whole : TreeReading)
    → i < length nodes → boxes ≡ [] → IsBehind i (read_over false key (drop i nodes) terms boxes) whole
    → LeavesMore whole
unfolding read_over
reading-goes_on key i nodes d terms boxes whole lt none h =
    let is = ap (λ (ns : List Node). read_over false key ns terms boxes) (drop_more nodes i d lt)
    ∙ ap (read_over false key (get_or nodes i d ∷ drop (i + 1) nodes) terms) none in
    let at_end = subst (λ (r : TreeReading). IsBehind i r whole) is h in
    record { no_boxes = at_end.boxes; some_left = inl (λ e. let rest = at_end.rest in absurd (cc)) }

-- the node may not stand at its box
pub reading-fails : (key : List PlainKeyAtom) (i : ℕ) (nodes : List Node) (d : Node) (terms : List LeafTerm)
    (box : PlainBox) (boxes rest new : List PlainBox) (taken : Option ℕ) (whole : TreeReading)
    → i < length nodes → boxes ≡ box ∷ rest → taken ≡ None
    → Treats (treated false key box (get_or nodes i d) terms) terms taken rest new
    → IsBehind i (read_over false key (drop i nodes) terms boxes) whole → StopsAt whole i
reading-fails key i nodes d terms box boxes rest new taken whole lt first none h before =
    let no_way = treats_none (treated false key box (get_or nodes i d) terms) terms taken rest new none h in
    let is = node-at key i nodes d terms box boxes rest lt first
    ∙ read-none false key (get_or nodes i d) (drop (i + 1) nodes) terms box rest no_way in
    let at_end = subst (λ (r : TreeReading). IsBehind i r whole) is before in
    record {
      before = omega (arith, at_end.met);
      some_rest = λ e. let left = at_end.rest in absurd (cc);
      some_boxes = λ e. let left = at_end.boxes in absurd (cc);
    }

-- no node is left
nodes-read : (key : List PlainKeyAtom) (i : ℕ) (nodes : List Node) (terms : List LeafTerm) (boxes : List PlainBox)
    → length nodes ≤ i → read_over false key (drop i nodes) terms boxes ≡ nothing_read [] terms boxes
unfolding read_over
nodes-read key i nodes terms boxes le =
    ap (λ (ns : List Node). read_over false key ns terms boxes) (drop_of_length-le nodes le)

-- and a box is
pub reading-ends : (key : List PlainKeyAtom) (i : ℕ) (nodes : List Node) (terms : List LeafTerm)
    (box : PlainBox) (boxes rest : List PlainBox) (whole : TreeReading)
    → length nodes ≤ i → boxes ≡ box ∷ rest
    → IsBehind i (read_over false key (drop i nodes) terms boxes) whole → LeavesBoxes whole
reading-ends key i nodes terms box boxes rest whole le first h =
    let at_end = subst (λ (r : TreeReading). IsBehind i r whole) (nodes-read key i nodes terms boxes le) h in
    record { no_rest = at_end.rest; some_boxes = λ e. let left = at_end.boxes in absurd (cc) }

-- nor a box; no term is left, or one is
pub reading-closes : (key : List PlainKeyAtom) (i : ℕ) (nodes : List Node) (terms : List LeafTerm) (at : ℕ)
    (boxes : List PlainBox) (whole : TreeReading)
    → length nodes ≤ i → boxes ≡ [] → length terms ≤ at
    → IsBehind i (read_over false key (drop i nodes) (drop at terms) boxes) whole → ClosesAll whole
reading-closes key i nodes terms at boxes whole le none all h =
    let at_end = subst (λ (r : TreeReading). IsBehind i r whole) (nodes-read key i nodes (drop at terms) boxes le) h in
    record {
      no_rest =
          at_end.rest;
      no_terms = at_end.terms ∙ drop_of_length-le terms all;
      no_boxes = at_end.boxes ∙ none;
    }

pub reading-term_left : (key : List PlainKeyAtom) (i : ℕ) (nodes : List Node) (terms : List LeafTerm) (at : ℕ)
    (d : LeafTerm) (boxes : List PlainBox) (whole : TreeReading)
    → length nodes ≤ i → boxes ≡ [] → at < length terms
    → IsBehind i (read_over false key (drop i nodes) (drop at terms) boxes) whole → LeavesMore whole
reading-term_left key i nodes terms at d boxes whole le none lt h =
    let at_end = subst (λ (r : TreeReading). IsBehind i r whole) (nodes-read key i nodes (drop at terms) boxes le) h in
    let left = drop_more terms at d lt in
    record { no_boxes = at_end.boxes ∙ none; some_left = inr (λ e. let whole = at_end.terms in absurd (cc)) }

-- the slice of the terms not yet taken
pub rest_slice : (terms : List LeafTerm) (n : ℕ) → take (length terms - n) (drop n terms) ≡ drop n terms
rest_slice terms n = ap (λ (k : ℕ). take k (drop n terms)) (sym (length-drop n terms)) ∙ take-length (drop n terms)

-- what the node took, said of the list of the terms not yet taken
pub Treats-rest : (key : List PlainKeyAtom) (box : PlainBox) (node : Node) (terms : List LeafTerm) (n : ℕ)
    (taken : Option ℕ) (rest new : List PlainBox)
    → Treats (treated false key box node (take (length terms - n) (drop n terms)))
    (take (length terms - n) (drop n terms)) taken rest new
    → Treats (treated false key box node (drop n terms)) (drop n terms) taken rest new
Treats-rest key box node terms n taken rest new h =
    subst (λ (ts : List LeafTerm). Treats (treated false key box node ts) ts taken rest new) (rest_slice terms n) h
