-- An open tree has fewer splits than its key has room: the undecided boxes and the splits weigh no more than the root.
use Rattle.std.proofs.Common.{◌≡◌, ◌≢◌, ℕ, zero, suc, ◌+◌, ◌*◌, ◌<◌, ◌≤◌, ℤ, Bool, true, false, not, cond, ◌&&◌, ◌||◌}
use Rattle.std.proofs.Common.{eqb, Some, None, List, [], ◌∷◌, ◌++◌, length, take, drop, nat_le, slice_get, ⊎_elim, refl}
use Rattle.std.proofs.Common.{ap, sym, ◌∙◌, subst, arith}
use Rattle.std.specs.List.{All, list_any, range_with_len}
use Rattle.std.specs.Option.{IsSomeAnd}
use Rattle.std.proofs.lemmas.Bool.{eq-eqb, ne_eqb, or_right, false_from_ne_true, cases_Bool}
use Rattle.std.proofs.Math.Nat.{mul-le-mul}
use Rattle.std.proofs.lemmas.List.{length-append}
use Rattle.std.proofs.lemmas.List.Elements.{All-nil, All-cons, All-append, All-head, All-tail}
use Rattle.std.proofs.lemmas.List.Sums.{sum_by-append}
use Rattle.lin_model.specs.KeyAtom.{PlainKeyAtom}
use Rattle.lin_model.specs.Key.{IsKey, key_width}
use Rattle.lin_model.specs.Lists.{chosen}
use Rattle.lin_model.specs.Facts.{key-narrow}
use Rattle.refutation.specs.declared.leaf.LeafTerm.{LeafTerm}
use Rattle.refutation.specs.declared.node.Node.{Node}
use Rattle.refutation.specs.declared.node.Node.TheVariants.{Split, NeSplit, Combo, Fixed, Empty, Left}
use Rattle.refutation.specs.declared.side.Side.{Side}
use Rattle.refutation.specs.Bounds.{key_bounds, is_empty}
use Rattle.refutation.specs.Box.{PlainBox, root_box, is_ne, left_half, right_half, on_side}
use Rattle.refutation.specs.Boxed.{IsBoxed, IsBoxedIn}
use Rattle.refutation.specs.Leaf.{combo, fixed, empty, closes}
use Rattle.refutation.specs.Reading.{Treated, treated, closed_by, is_split, names_ne, Met, TreeReading, read_over}
use Rattle.refutation.specs.ReadingFacts.{first_is_read}
use Rattle.refutation.specs.SearchTree.{is_inner, is_left, inner_count, IsFairSplit, first_left, IsUndecided}
use Rattle.refutation.specs.SearchTree.{IsSearchSplit, KeepsOrder, IsOpenTree, points_over, doubling, room}
use Rattle.refutation.proofs.LookUps.{test_found}
use Rattle.refutation.proofs.SplitLemmas.{fair-cut, left-boxed, right-boxed, halves-points, points-some}

-- ---- atoms that no side names

abbrev is_named : List Side → ℕ → Bool
is_named sides n = list_any (λ side. eqb side.atom n) sides

-- 2 for each atom `form != c` that no side names; n is the number of the first atom
abbrev doubling_left : List Side → ℕ → List PlainKeyAtom → ℕ
doubling_left sides n [] = 1
doubling_left sides n (a ∷ atoms) = cond (is_ne a && not (is_named sides n)) 2 1 * doubling_left sides (n + 1) atoms

-- what one side more names
named-other : (sides : List Side) (side : Side) (n : ℕ) → side.atom ≢ n
    → is_named (sides ++ side ∷ []) n ≡ is_named sides n
named-other [] side n other = ap (λ (b : Bool). b || false) (ne_eqb side.atom n other)
named-other (s ∷ sides) side n other = ap (λ (b : Bool). eqb s.atom n || b) (named-other sides side n other)

named-here : (sides : List Side) (side : Side) (n : ℕ) → side.atom ≡ n → is_named (sides ++ side ∷ []) n ≡ true
named-here [] side n same = ap (λ (b : Bool). b || false) (eq-eqb side.atom n same)
named-here (s ∷ sides) side n same =
    or_right (eqb s.atom n) (is_named (sides ++ side ∷ []) n) (named-here sides side n same)

not_named : (sides : List Side) (n : ℕ) → All (λ side. side.atom ≢ n) sides → is_named sides n ≡ false
not_named [] n h = refl
not_named (s ∷ sides) n h =
    ap (λ (b : Bool). b || is_named sides n) (ne_eqb s.atom n (All-head (λ side. side.atom ≢ n) s sides h))
    ∙ not_named sides n (All-tail (λ side. side.atom ≢ n) s sides h)

and_not : (t u v : Bool) → t ≡ true → u ≡ v → (t && not u) ≡ not v
and_not true u v h same = ap not same
and_not false u v h same = absurd (cc)

and_all : (t u : Bool) → u ≡ false → t ≡ (t && not u)
and_all true u none = sym (ap not none)
and_all false u none = refl

-- the root names none
doubling-root : (n : ℕ) (atoms : List PlainKeyAtom) → doubling_left [] n atoms ≡ doubling atoms
doubling-root n [] = refl
doubling-root n (a ∷ atoms) =
    ap (λ (b : Bool). cond b 2 1 * doubling_left [] (n + 1) atoms) (sym (and_all (is_ne a) false refl))
    ∙ ap (λ (k : ℕ). cond (is_ne a) 2 1 * k) (doubling-root (n + 1) atoms)

doubling-some : (sides : List Side) (n : ℕ) (atoms : List PlainKeyAtom) → 1 ≤ doubling_left sides n atoms
doubling-some sides n [] = omega arith
doubling-some sides n (a ∷ atoms) =
    by_test (is_ne a && not (is_named sides n)) (doubling_left sides (n + 1) atoms) (doubling-some sides (n + 1) atoms)
  where
    by_test : (b : Bool) (k : ℕ) → 1 ≤ k → 1 ≤ cond b 2 1 * k
    by_test true k h = omega arith
    by_test false k h = omega arith

-- a side of an atom before these changes nothing
doubling-same : (sides : List Side) (side : Side) (n : ℕ) (atoms : List PlainKeyAtom) → side.atom < n
    → doubling_left (sides ++ side ∷ []) n atoms ≡ doubling_left sides n atoms
doubling-same sides side n [] lt = refl
doubling-same sides side n (a ∷ atoms) lt =
    ap (λ (b : Bool). cond (is_ne a && not b) 2 1 * doubling_left (sides ++ side ∷ []) (n + 1) atoms)
    (named-other sides side n (λ e. omega arith))
    ∙ ap (λ (k : ℕ). cond (is_ne a && not (is_named sides n)) 2 1 * k)
    (doubling-same sides side (n + 1) atoms (omega arith))

-- a side of an atom `form != c` that no other side names halves the doubling
doubling-halved : (sides : List Side) (side : Side) (n k : ℕ) (atoms : List PlainKeyAtom) (a : PlainKeyAtom)
    → side.atom ≡ n + k → is_named sides side.atom ≡ false → slice_get atoms k ≡ Some a → is_ne a ≡ true
    → 2 * doubling_left (sides ++ side ∷ []) n atoms ≡ doubling_left sides n atoms
doubling-halved sides side n k [] a at fresh is ne = absurd (cc)
doubling-halved sides side n zero (b ∷ atoms) a at fresh is ne =
    let here : side.atom ≡ n = omega arith in
    let same : a ≡ b = cc in
    let ne' : is_ne b ≡ true = subst (λ (x : PlainKeyAtom). is_ne x ≡ true) same ne in
    let before = and_not (is_ne b) (is_named sides n) false ne' (subst (λ m. is_named sides m ≡ false) here fresh) in
    let after = and_not (is_ne b) (is_named (sides ++ side ∷ []) n) true ne' (named-here sides side n here) in
    by_tests (is_ne b && not (is_named sides n)) (is_ne b && not (is_named (sides ++ side ∷ []) n))
    (doubling_left sides (n + 1) atoms) (doubling_left (sides ++ side ∷ []) (n + 1) atoms) before after
    (doubling-same sides side (n + 1) atoms (omega arith))
  where
    by_tests : (t u : Bool) (x y : ℕ) → t ≡ true → u ≡ false → y ≡ x → 2 * (cond u 2 1 * y) ≡ cond t 2 1 * x
    by_tests true true x y f g h = absurd (cc)
    by_tests true false x y f g h = omega arith
    by_tests false u x y f g h = absurd (cc)
doubling-halved sides side n (suc k) (b ∷ atoms) a at fresh is ne =
    let head = ap (λ (t : Bool). cond (is_ne b && not t) 2 1 * doubling_left (sides ++ side ∷ []) (n + 1) atoms)
    (named-other sides side n (λ e. omega arith)) in
    let tail = doubling-halved sides side (n + 1) k atoms a (omega arith) fresh is ne in
    ap (λ (m : ℕ). 2 * m) head ∙ by_test (is_ne b && not (is_named sides n))
    (doubling_left (sides ++ side ∷ []) (n + 1) atoms) (doubling_left sides (n + 1) atoms) tail
  where
    by_test : (t : Bool) (x y : ℕ) → 2 * x ≡ y → 2 * (cond t 2 1 * x) ≡ cond t 2 1 * y
    by_test true x y h = omega arith
    by_test false x y h = omega arith

-- ---- the weight of a box

-- its points over the key's variables, doubled for each atom `form != c` that it may still be split by
abbrev weight_of : List PlainKeyAtom → PlainBox → ℕ
weight_of key box = points_over box.bounds (range_with_len 0 (key_width key)) * doubling_left box.sides 0 key

abbrev weight_in : List PlainKeyAtom → List PlainBox → ℕ
weight_in key [] = 0
weight_in key (box ∷ boxes) = weight_of key box + weight_in key boxes

-- a box that has a point over the key's variables
record HasRoom (key : List PlainKeyAtom) (box : PlainBox) : Type 0 where
  full : is_empty box.bounds ≡ false
  boxed : IsBoxedIn key box.bounds

weight-some : (key : List PlainKeyAtom) (box : PlainBox) → key_width key ≤ 64 → HasRoom key box → 1 ≤ weight_of key box
weight-some key box narrow h =
    omega (arith, mul-le-mul (points-some key box.bounds narrow h.boxed h.full) (doubling-some box.sides 0 key))

weight-many : (key : List PlainKeyAtom) (boxes : List PlainBox) → key_width key ≤ 64 → All (HasRoom key) boxes
    → length boxes ≤ weight_in key boxes
weight-many key [] narrow h = omega arith
weight-many key (box ∷ boxes) narrow h =
    omega (
      arith,
      weight-some key box narrow (All-head (HasRoom key) box boxes h),
      weight-many key boxes narrow
          (All-tail (HasRoom key) box boxes h),
    )

weight_in-append : (key : List PlainKeyAtom) (boxes more : List PlainBox)
    → weight_in key (boxes ++ more) ≡ weight_in key boxes + weight_in key more
weight_in-append key [] more = omega arith
weight_in-append key (box ∷ boxes) more = omega (arith, weight_in-append key boxes more)

-- ---- one node

-- what a node leaves of a box: boxes that have room, and that with the split weigh no more than it
record Shares (key : List PlainKeyAtom) (box : PlainBox) (inner : ℕ) (boxes : List PlainBox) : Type 0 where
  room : All (HasRoom key) boxes
  weight : weight_in key boxes + inner + 1 ≤ weight_of key box + length boxes

two-room : (key : List PlainKeyAtom) (left right : PlainBox) → HasRoom key left → HasRoom key right
    → All (HasRoom key) (left ∷ right ∷ [])
two-room key left right f g =
    All-cons (HasRoom key) left (right ∷ []) f (All-cons (HasRoom key) right [] g (All-nil (HasRoom key)))

split-shares : (key : List PlainKeyAtom) (box : PlainBox) (v : ℕ) (cut : ℤ) → key_width key ≤ 64 → HasRoom key box
    → IsFairSplit key box v cut → Shares key box 1 (left_half box v cut ∷ right_half box v cut ∷ [])
split-shares key box v cut narrow h fair =
    let is = fair-cut key box v cut narrow h.boxed fair in
    let points = halves-points box.bounds (key_width key) v is.0 is.1 cut fair.of_key is.2 in
    let weights = ap (λ (n : ℕ). n * doubling_left box.sides 0 key) points in
    record {
      room = two-room key (left_half box v cut) (right_half box v cut)
          (record { full = fair.left; boxed = left-boxed key box.bounds v is.0 is.1 cut is.2 h.boxed })
          (record { full = fair.right; boxed = right-boxed key box.bounds v is.0 is.1 cut is.2 h.boxed });
      weight = omega (arith, weights);
    }

ne-shares : (key : List PlainKeyAtom) (box : PlainBox) (i : ℕ) → HasRoom key box → All (λ side. side.atom ≢ i) box.sides
    → names_ne key i ≡ true → Shares key box 1 (on_side box i false ∷ on_side box i true ∷ [])
ne-shares key box i h fresh names =
    let found = test_found (slice_get key i) is_ne names in
    let half = λ (upper : Bool). ap (λ (n : ℕ). points_over box.bounds (range_with_len 0 (key_width key)) * n)
    (doubling-halved box.sides (record { atom = i; upper = upper }) 0 i key found.0 (omega arith)
    (not_named box.sides i fresh) found.1 found.2) in
    record {
      room = two-room key (on_side box i false) (on_side box i true) (record { full = h.full; boxed = h.boxed })
          (record { full = h.full; boxed = h.boxed });
      weight = omega (arith, half false, half true);
    }

closed-shares : (key : List PlainKeyAtom) (box : PlainBox) → key_width key ≤ 64 → HasRoom key box → Shares key box 0 []
closed-shares key box narrow h =
    record { room = All-nil (HasRoom key); weight = omega (arith, weight-some key box narrow h) }

-- where a choice has a value, that is what it chose
chosen-shares : (key : List PlainKeyAtom) (box : PlainBox) (inner : ℕ) (b : Bool) (v r : Treated)
    → cond b (Some v) None ≡ Some r → (b ≡ true → Shares key box inner v.boxes) → Shares key box inner r.boxes
chosen-shares key box inner b v r is h =
    let two = chosen b v r is in subst (λ (t : Treated). Shares key box inner t.boxes) two.1 (h two.0)

node-shares : (key : List PlainKeyAtom) (box : PlainBox) (node : Node) (terms : List LeafTerm)
    (r : Treated)
    → key_width key ≤ 64 → HasRoom key box → (is_inner node ≡ true → IsSearchSplit key box node)
    → treated true key box node terms ≡ Some r → Shares key box (inner_count (node ∷ [])) r.boxes
unfolding treated
node-shares key box (Split v cut) terms r narrow h keeps is =
    chosen-shares key box 1 (is_split v cut)
    (record { boxes = left_half box v cut ∷ right_half box v cut ∷ []; terms = terms }) r is
    (λ _. split-shares key box v cut narrow h (keeps refl).fair)
node-shares key box (NeSplit i) terms r narrow h keeps is =
    chosen-shares key box 1 (names_ne key i)
    (record { boxes = on_side box i false ∷ on_side box i true ∷ []; terms = terms }) r is
    (ne-shares key box i h (keeps refl).fair)
node-shares key box (Combo count) terms r narrow h keeps is =
    chosen-shares key box 0 (nat_le count (length terms) && closes key box (combo (take count terms)))
    (record { boxes = []; terms = drop count terms }) r is (λ _. closed-shares key box narrow h)
node-shares key box (Fixed i) terms r narrow h keeps is =
    chosen-shares key box 0 (closes key box (fixed i)) (record { boxes = []; terms = terms }) r is
    (λ _. closed-shares key box narrow h)
node-shares key box Empty terms r narrow h keeps is =
    chosen-shares key box 0 (closes key box empty) (record { boxes = []; terms = terms }) r is
    (λ _. closed-shares key box narrow h)
node-shares key box Left terms r narrow h keeps is =
    chosen-shares key box 0 true (record { boxes = []; terms = terms }) r is (λ _. closed-shares key box narrow h)

-- ---- all nodes

inner_count-cons : (node : Node) (nodes : List Node)
    → inner_count (node ∷ nodes) ≡ inner_count (node ∷ []) + inner_count nodes
inner_count-cons node nodes = sum_by-append (λ (n : Node). cond (is_inner n) 1 0) (node ∷ []) nodes

-- the splits that are read over boxes, and these, are together no more than the weight of the boxes
splits-few : (key : List PlainKeyAtom) (nodes : List Node) (terms : List LeafTerm) (boxes : List PlainBox)
    → key_width key ≤ 64 → All (HasRoom key) boxes → (read_over true key nodes terms boxes).rest ≡ []
    → All (KeepsOrder key) (read_over true key nodes terms boxes).met
    → inner_count nodes + length boxes ≤ weight_in key boxes
unfolding read_over
splits-few key [] terms boxes narrow fit no_rest order = omega (arith, weight-many key boxes narrow fit)
splits-few key (node ∷ nodes) terms [] narrow fit no_rest order = absurd (cc)
splits-few key (node ∷ nodes) terms (box ∷ boxes) narrow fit no_rest order =
    let on = first_is_read true key node nodes terms box boxes no_rest in
    let behind_it = read_over true key nodes on.after.terms (on.after.boxes ++ boxes) in
    let here : Met = record { node = node; box = box } in
    let order' : All (KeepsOrder key) (here ∷ behind_it.met) = subst
    (λ (r : TreeReading). All (KeepsOrder key) r.met) on.then_rest order in
    let shares = node-shares key box node terms on.after narrow (All-head (HasRoom key) box boxes fit)
    (All-head (KeepsOrder key) here behind_it.met order') on.is in
    let rest = splits-few key nodes on.after.terms (on.after.boxes ++ boxes) narrow
    (All-append (HasRoom key) on.after.boxes boxes shares.room (All-tail (HasRoom key) box boxes fit)) on.rest_read
    (All-tail (KeepsOrder key) here behind_it.met order') in
    omega (
      arith,
      shares.weight,
      rest,
      weight_in-append key on.after.boxes boxes,
      length-append on.after.boxes boxes,
      inner_count-cons node nodes,
    )

-- ---- the root of an open tree isn't empty

undecided-full : (key : List PlainKeyAtom) (box : PlainBox) → IsUndecided key box
    → is_empty box.bounds ≡ false
undecided-full key box h = false_from_ne_true (is_empty box.bounds) (λ is. h.not_by_one (empty, refl, is))

closed-leaves_none : (b : Bool) (terms : List LeafTerm) (r : Treated) → closed_by b terms ≡ Some r → r.boxes ≡ []
closed-leaves_none b terms r h =
    ap (λ (t : Treated). t.boxes) (sym (chosen b (record { boxes = []; terms = terms }) r h).1)

-- a node that doesn't split leaves no box
leaf-leaves_none : (key : List PlainKeyAtom) (box : PlainBox) (node : Node) (terms : List LeafTerm) (r : Treated)
    → is_inner node ≡ false → treated true key box node terms ≡ Some r → r.boxes ≡ []
unfolding treated
leaf-leaves_none key box (Split v cut) terms r leaf is = absurd (cc)
leaf-leaves_none key box (NeSplit i) terms r leaf is = absurd (cc)
leaf-leaves_none key box (Combo count) terms r leaf is =
    closed-leaves_none (nat_le count (length terms) && closes key box (combo (take count terms))) (drop count terms) r
    is
leaf-leaves_none key box (Fixed i) terms r leaf is = closed-leaves_none (closes key box (fixed i)) terms r is
leaf-leaves_none key box Empty terms r leaf is = closed-leaves_none (closes key box empty) terms r is
leaf-leaves_none key box Left terms r leaf is = closed-leaves_none true terms r is

-- where no box is left, no node is read
none_met : (key : List PlainKeyAtom) (nodes : List Node) (terms : List LeafTerm)
    → (read_over true key nodes terms []).met ≡ []
unfolding read_over
none_met key [] terms = refl
none_met key (node ∷ nodes) terms = refl

-- the only box is split, or its node is the first Left
first-full : (key : List PlainKeyAtom) (nodes : List Node) (terms : List LeafTerm) (box : PlainBox)
    → (read_over true key nodes terms (box ∷ [])).rest ≡ []
    → All (KeepsOrder key) (read_over true key nodes terms (box ∷ [])).met
    → IsSomeAnd (first_left (read_over true key nodes terms (box ∷ [])).met) (λ (m : Met). IsUndecided key m.box)
    → is_empty box.bounds ≡ false
unfolding read_over
first-full key [] terms box no_rest order first = absurd first
first-full key (node ∷ nodes) terms box no_rest order first =
    let on = first_is_read true key node nodes terms box [] no_rest in
    let behind_it = read_over true key nodes on.after.terms (on.after.boxes ++ []) in
    let here : Met = record { node = node; box = box } in
    let order' : All (KeepsOrder key) (here ∷ behind_it.met) = subst
    (λ (r : TreeReading). All (KeepsOrder key) r.met) on.then_rest order in
    let first' : IsSomeAnd (first_left (here ∷ behind_it.met)) (λ (m : Met). IsUndecided key m.box) = subst
    (λ (r : TreeReading). IsSomeAnd (first_left r.met) (λ (m : Met). IsUndecided key m.box)) on.then_rest first
    in
    ⊎_elim (λ inner. undecided-full key box
    (All-head (KeepsOrder key) here behind_it.met order' inner).undecided)
    (λ leaf. let alone : behind_it.met
    ≡ [] = ap (λ (bs : List PlainBox). (read_over true key nodes on.after.terms (bs ++ [])).met)
    (leaf-leaves_none key box node terms on.after leaf on.is) ∙ none_met key nodes on.after.terms in
    by_left (is_left node)
    (subst (λ (ms : List Met). IsSomeAnd (first_left (here ∷ ms)) (λ (m : Met). IsUndecided key m.box)) alone
    first')) (cases_Bool (is_inner node))
  where
    by_left : (b : Bool) → IsSomeAnd (cond b (Some (record { node = node; box = box })) None)
        (λ (m : Met). IsUndecided key m.box) → is_empty box.bounds ≡ false
    by_left true h = undecided-full key box h
    by_left false h = absurd h

-- the theorem
pub open-below_room : (key : List PlainKeyAtom) (splits : ℕ) (nodes : List Node) (terms : List LeafTerm)
    → IsKey key → IsBoxed key → IsOpenTree key splits nodes terms → splits < room key
unfolding room
open-below_room key splits nodes terms is boxed open_tree =
    let full = first-full key nodes terms (root_box key) open_tree.search.no_rest open_tree.search.in_order
    open_tree.first in
    let fit = All-cons (HasRoom key) (root_box key) [] (record { full = full; boxed = boxed }) (All-nil (HasRoom key))
    in
    let few = splits-few key nodes terms (root_box key ∷ []) (key-narrow key is) fit open_tree.search.no_rest
    open_tree.search.in_order in
    let whole = ap (λ (n : ℕ). points_over (key_bounds key) (range_with_len 0 (key_width key)) * n)
    (doubling-root 0 key) in
    omega (arith, few, whole, open_tree.inner)
