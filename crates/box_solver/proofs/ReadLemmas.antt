-- Reading more nodes: a search tree goes on where it left boxes.
use Rattle.std.proofs.Common.{◌≡◌, ℕ, zero, suc, ◌+◌, ◌≤◌, Bool, true, false, cond, ◌&&◌, Some, None, List, [], ◌∷◌}
use Rattle.std.proofs.Common.{◌++◌, length, take, drop, replicate, nat_le, refl, ap, sym, ◌∙◌, arith}
use Rattle.std.specs.List.{All, list_any}
use Rattle.std.proofs.lemmas.List.{take-append-le, drop-append-le, length-append, get_or-replicate, length-replicate}
use Rattle.std.proofs.lemmas.List.Sums.{sum_by-append}
use Rattle.std.proofs.lemmas.Bool.{and_parts, or_parts, leb-true, le-leb, both_ways}
use Rattle.std.proofs.lemmas.List.Elements.{All-nil, All-cons}
use Rattle.std.proofs.lemmas.List.Kept.{AllPairs-cons}
use Rattle.lin_model.specs.KeyAtom.{PlainKeyAtom}
use Rattle.lin_model.specs.Lists.{chosen}
use Rattle.refutation.specs.declared.leaf.LeafTerm.{LeafTerm}
use Rattle.refutation.specs.declared.node.Node.{Node}
use Rattle.refutation.specs.declared.node.Node.TheVariants.{Split, NeSplit, Combo, Fixed, Empty, Left}
use Rattle.refutation.specs.Bounds.{is_empty}
use Rattle.refutation.specs.Box.{PlainBox, left_half, right_half, on_side}
use Rattle.refutation.specs.Leaf.{combo_closes, fixed_closes}
use Rattle.refutation.specs.Reading.{Treated, treated, is_split, names_ne, Met, TreeReading, behind, read_over}
use Rattle.refutation.specs.ReadingFacts.{read-some, first_is_read}
use Rattle.refutation.specs.SearchTree.{is_left, is_inner, inner_count, NoInnerAfterLeft, first_left, KeepsOrder}
use Rattle.box_solver.specs.Answer.{OnlyLeftAfterLeft}

-- ---- one node, with more terms behind

-- what a node leaves, with more terms behind
abbrev with_more : Treated → List LeafTerm → Treated
with_more r more = record { boxes = r.boxes; terms = r.terms ++ more }

chosen-more : (b : Bool) (boxes : List PlainBox) (terms more : List LeafTerm) (r : Treated)
    → cond b (Some (record { boxes = boxes; terms = terms })) None ≡ Some r
    → cond b (Some (record { boxes = boxes; terms = terms ++ more })) None ≡ Some (with_more r more)
chosen-more true boxes terms more r h =
    let before : Treated = record { boxes = boxes; terms = terms } in
    let same : before ≡ r = cc in
    ap (λ (x : Treated). Some (with_more x more)) same
chosen-more false boxes terms more r h = absurd (cc)

-- a combination finds the same terms
combo-more : (key : List PlainKeyAtom) (box : PlainBox) (count : ℕ) (terms more : List LeafTerm) (r : Treated)
    → treated true key box (Combo count) terms ≡ Some r
    → treated true key box (Combo count) (terms ++ more) ≡ Some (with_more r more)
unfolding treated
combo-more key box count terms more r h =
    let lt : count ≤ length terms = leb-true count (length terms)
    (and_parts (nat_le count (length terms)) (combo_closes key box (take count terms))
    (chosen (nat_le count (length terms) && combo_closes key box (take count terms))
    (record { boxes = []; terms = drop count terms }) r h).0).0 in
    let lt' : count ≤ length (terms ++ more) = omega (arith, length-append terms more) in
    ap (λ (b : Bool). cond (b && combo_closes key box (take count (terms ++ more)))
    (Some (record { boxes = []; terms = drop count (terms ++ more) })) None)
    (le-leb count (length (terms ++ more)) lt' ∙ sym (le-leb count (length terms) lt))
    ∙ ap (λ (ts : List LeafTerm). cond (nat_le count (length terms) && combo_closes key box ts)
    (Some (record { boxes = []; terms = drop count (terms ++ more) })) None) (take-append-le count terms more lt)
    ∙ ap (λ (ts : List LeafTerm). cond (nat_le count (length terms) && combo_closes key box (take count terms))
    (Some (record { boxes = []; terms = ts })) None) (drop-append-le count terms more lt)
    ∙ chosen-more (nat_le count (length terms) && combo_closes key box (take count terms)) [] (drop count terms) more r
    h

treated-more : (key : List PlainKeyAtom) (box : PlainBox) (node : Node) (terms more : List LeafTerm) (r : Treated)
    → treated true key box node terms ≡ Some r → treated true key box node (terms ++ more) ≡ Some (with_more r more)
unfolding treated
treated-more key box (Split v cut) terms more r h =
    chosen-more (is_split v cut) (left_half box v cut ∷ right_half box v cut ∷ []) terms more r h
treated-more key box (NeSplit i) terms more r h =
    chosen-more (names_ne key i) (on_side box i false ∷ on_side box i true ∷ []) terms more r h
treated-more key box (Combo count) terms more r h = combo-more key box count terms more r h
treated-more key box (Fixed i) terms more r h = chosen-more (fixed_closes key box.bounds i) [] terms more r h
treated-more key box Empty terms more r h = chosen-more (is_empty box.bounds) [] terms more r h
treated-more key box Left terms more r h = chosen-more true [] terms more r h

-- ---- more nodes

-- a reading, and one that goes on where it stopped
abbrev pub joined : TreeReading → TreeReading → TreeReading
joined r s = record { met = r.met ++ s.met; rest = s.rest; terms = s.terms; boxes = s.boxes }

-- nodes that are all read, followed by more: these are read over the boxes and terms that the first ones left
pub read-append : (key : List PlainKeyAtom) (nodes more : List Node) (terms terms' : List LeafTerm)
    (boxes : List PlainBox)
    → (read_over true key nodes terms boxes).rest ≡ []
    → read_over true key (nodes ++ more) (terms ++ terms') boxes
    ≡ joined (read_over true key nodes terms boxes)
    (read_over true key more ((read_over true key nodes terms boxes).terms ++ terms')
    (read_over true key nodes terms boxes).boxes)
unfolding read_over
read-append key [] more terms terms' boxes h = refl
read-append key (node ∷ nodes) more terms terms' [] h = absurd (cc)
read-append key (node ∷ nodes) more terms terms' (box ∷ boxes) h =
    let on = first_is_read true key node nodes terms box boxes h in
    let next = on.after.boxes ++ boxes in
    read-some true key node (nodes ++ more) (terms ++ terms') box boxes (with_more on.after terms')
    (treated-more key box node terms terms' on.after on.is)
    ∙ ap (behind node box) (read-append key nodes more on.after.terms terms' next on.rest_read)
    ∙ ap (λ (r : TreeReading). joined r (read_over true key more (r.terms ++ terms') r.boxes)) (sym on.then_rest)

-- ---- a tree without Left

-- a node other than Left does the same where Left may stand
treated-same : (key : List PlainKeyAtom) (box : PlainBox) (node : Node) (terms : List LeafTerm) → is_left node ≡ false
    → treated false key box node terms ≡ treated true key box node terms
unfolding treated
treated-same key box (Split v cut) terms h = refl
treated-same key box (NeSplit i) terms h = refl
treated-same key box (Combo count) terms h = refl
treated-same key box (Fixed i) terms h = refl
treated-same key box Empty terms h = refl
treated-same key box Left terms h = absurd (cc)

-- so a tree without Left that is read is read strictly too
pub read-strictly : (key : List PlainKeyAtom) (nodes : List Node) (terms : List LeafTerm) (boxes : List PlainBox)
    → list_any is_left nodes ≡ false → (read_over true key nodes terms boxes).rest ≡ []
    → read_over false key nodes terms boxes ≡ read_over true key nodes terms boxes
unfolding read_over
read-strictly key [] terms boxes no_left h = refl
read-strictly key (node ∷ nodes) terms [] no_left h = refl
read-strictly key (node ∷ nodes) terms (box ∷ boxes) no_left h =
    let on = first_is_read true key node nodes terms box boxes h in
    let none = or_parts (is_left node) (list_any is_left nodes) no_left in
    read-some false key node nodes terms box boxes on.after (treated-same key box node terms none.0 ∙ on.is)
    ∙ ap (behind node box) (read-strictly key nodes on.after.terms (on.after.boxes ++ boxes) none.1 on.rest_read)
    ∙ sym on.then_rest

-- and meets none
pub no_left-met : (key : List PlainKeyAtom) (nodes : List Node) (terms : List LeafTerm) (boxes : List PlainBox)
    → list_any is_left nodes ≡ false → (read_over true key nodes terms boxes).rest ≡ []
    → first_left (read_over true key nodes terms boxes).met ≡ None
unfolding read_over
no_left-met key [] terms boxes no_left h = refl
no_left-met key (node ∷ nodes) terms [] no_left h = refl
no_left-met key (node ∷ nodes) terms (box ∷ boxes) no_left h =
    let on = first_is_read true key node nodes terms box boxes h in
    let none = or_parts (is_left node) (list_any is_left nodes) no_left in
    let behind_it = read_over true key nodes on.after.terms (on.after.boxes ++ boxes) in
    ap (λ (r : TreeReading). first_left r.met) on.then_rest
    ∙ ap (λ (b : Bool). cond b (Some (record { node = node; box = box })) (first_left behind_it.met)) none.0
    ∙ no_left-met key nodes on.after.terms (on.after.boxes ++ boxes) none.1 on.rest_read

-- ---- Left for each box

-- each box with its Left
abbrev pub lefts_met : List PlainBox → List Met
lefts_met [] = []
lefts_met (box ∷ boxes) = record { node = Left; box = box } ∷ lefts_met boxes

pub lefts-read : (key : List PlainKeyAtom) (boxes : List PlainBox)
    → read_over true key (replicate (length boxes) Left) [] boxes ≡ record {
      met =
          lefts_met boxes;
      rest = [];
      terms = [];
      boxes = [];
    }
unfolding read_over treated
lefts-read key [] = refl
lefts-read key (box ∷ boxes) = ap (behind Left box) (lefts-read key boxes)

pub lefts-in_order : (key : List PlainKeyAtom) (boxes : List PlainBox) → All (KeepsOrder key) (lefts_met boxes)
lefts-in_order key [] = All-nil (KeepsOrder key)
lefts-in_order key (box ∷ boxes) =
    All-cons (KeepsOrder key) (record { node = Left; box = box }) (lefts_met boxes) (λ inner. absurd (cc))
    (lefts-in_order key boxes)

pub lefts-inner : (n : ℕ) → inner_count (replicate n Left) ≡ 0
lefts-inner zero = refl
lefts-inner (suc n) =
    sum_by-append (λ (node : Node). cond (is_inner node) 1 0) (Left ∷ []) (replicate n Left)
    ∙ ap (λ (k : ℕ). 0 + k) (lefts-inner n)

pub inner_count-append : (nodes more : List Node) → inner_count (nodes ++ more) ≡ inner_count nodes + inner_count more
inner_count-append nodes more = sum_by-append (λ (node : Node). cond (is_inner node) 1 0) nodes more

-- no node is a Left, or all behind it are
pub NoInnerAfterLeft-append : (nodes : List Node) (n : ℕ) → list_any is_left nodes ≡ false
    → NoInnerAfterLeft (nodes ++ replicate n Left)
NoInnerAfterLeft-append [] zero h = λ i j d less lt. absurd (omega (arith, lt))
NoInnerAfterLeft-append [] (suc n) h =
    AllPairs-cons (λ node later. is_left node ≡ true → is_inner later ≡ false) Left (replicate n Left)
    (λ k d lt _. ap is_inner (get_or-replicate n k Left d (omega (arith, lt, length-replicate n Left))))
    (NoInnerAfterLeft-append [] n h)
NoInnerAfterLeft-append (node ∷ nodes) n h =
    let none = or_parts (is_left node) (list_any is_left nodes) h in
    AllPairs-cons (λ m later. is_left m ≡ true → is_inner later ≡ false) node (nodes ++ replicate n Left)
    (λ k d lt left. absurd (both_ways (is_left node) none.0 left)) (NoInnerAfterLeft-append nodes n none.1)

pub OnlyLeftAfterLeft-append : (nodes : List Node) (n : ℕ) → list_any is_left nodes ≡ false
    → OnlyLeftAfterLeft (nodes ++ replicate n Left)
OnlyLeftAfterLeft-append [] zero h = λ i j d less lt. absurd (omega (arith, lt))
OnlyLeftAfterLeft-append [] (suc n) h =
    AllPairs-cons (λ node later. is_left node ≡ true → is_left later ≡ true) Left (replicate n Left)
    (λ k d lt _. ap is_left (get_or-replicate n k Left d (omega (arith, lt, length-replicate n Left))))
    (OnlyLeftAfterLeft-append [] n h)
OnlyLeftAfterLeft-append (node ∷ nodes) n h =
    let none = or_parts (is_left node) (list_any is_left nodes) h in
    AllPairs-cons (λ m later. is_left m ≡ true → is_left later ≡ true) node (nodes ++ replicate n Left)
    (λ k d lt left. absurd (both_ways (is_left node) none.0 left)) (OnlyLeftAfterLeft-append nodes n none.1)
