-- A point that satisfies the key is in no closed box.
use Rattle.std.proofs.Common.{◌≡◌, ℕ, ◌<◌, ℤ, pos, negsuc, neg_ℤ, ◌-ℤ◌, ◌*ℤ◌, ◌≤ℤ◌, ◌<ℤ◌, Bool, true, false, not, ◌&&◌}
use Rattle.std.proofs.Common.{Option, Some, None, IfSome, List, [], ◌∷◌, length, slice_get, refl, ap, sym, ◌∙◌, subst}
use Rattle.std.proofs.Common.{arith, int_lt, nat_le, ⊎_elim}
use Rattle.std.specs.List.{All, list_any}
use Rattle.std.specs.Option.{option_map, option_map_or}
use Rattle.std.specs.Ordering.{int_eq}
use Rattle.std.proofs.lemmas.Bool.{and_parts, or_cases, not-true, both_ways}
use Rattle.std.proofs.lemmas.Bool.Decides.{Decides-int_eq}
use Rattle.std.proofs.lemmas.Int.{ints}
use Rattle.std.proofs.lemmas.List.Elements.{All-nil, All-cons}
use Rattle.lin_model.specs.declared.op.Op.{Op}
use Rattle.lin_model.specs.declared.op.Op.TheVariants.{Le, Ge, Eq, Ne}
use Rattle.lin_model.specs.Form.{value_at, form_value}
use Rattle.lin_model.specs.KeyAtom.{PlainKeyAtom, KeyAtomHolds}
use Rattle.lin_model.specs.Key.{KeyHolds, IsKey}
use Rattle.lin_model.specs.Test.{passes}
use Rattle.lin_model.specs.Lists.{chosen, All-at}
use Rattle.lin_model.specs.Integers.{scale_up, scale_down}
use Rattle.refutation.specs.declared.side.Side.{Side}
use Rattle.refutation.specs.declared.leaf.LeafTerm.{LeafTerm}
use Rattle.refutation.specs.declared.leaf.On.{On}
use Rattle.refutation.specs.declared.leaf.On.TheVariants.{Atom as OnAtom, Side as OnSide}
use Rattle.refutation.specs.Bounds.{PlainBounds, lower_of, upper_of, variables, crosses, is_empty, least, greatest}
use Rattle.refutation.specs.Bounds.{IsWithin}
use Rattle.refutation.specs.Box.{PlainBox, beside, side_atom, IsInBox}
use Rattle.refutation.specs.Leaf.{PlainLeaf, combo, fixed, empty, named, is_factor, is_positive_factor, weight}
use Rattle.refutation.specs.Leaf.{weighted, Multiple, multiple_of, multiples_of, summed_constant, summed_form}
use Rattle.refutation.specs.Leaf.{is_positive_sum, combo_closes, fails_fixed, fixed_closes, closes}
use Rattle.refutation.proofs.LookUps.{test_found, bound_some, mapped_some}
use Rattle.refutation.proofs.Sums.{least-below, greatest-above, total_of, summed_form-value}

-- ---- an empty box has no point

crosses-none : (lo hi : Option ℤ) (x : ℤ) → IfSome lo (λ n. n ≤ℤ x) → IfSome hi (λ n. x ≤ℤ n) → crosses lo hi ≡ true → ⊥
crosses-none None hi x f g h = absurd (cc)
crosses-none (Some l) None x f g h = absurd (cc)
crosses-none (Some l) (Some u) x f g h = omega (arith, ints)

any_crosses-none : (b : PlainBounds) (vs : List ℕ) (point : List ℤ) → IsWithin b point
    → list_any (λ v. crosses (lower_of b v) (upper_of b v)) vs ≡ true → ⊥
any_crosses-none b [] point h any = absurd (cc)
any_crosses-none b (v ∷ vs) point h any =
    ⊎_elim (crosses-none (lower_of b v) (upper_of b v) (value_at point v) (h.above v) (h.below v))
    (any_crosses-none b vs point h) (or_cases (crosses (lower_of b v) (upper_of b v))
    (list_any (λ w. crosses (lower_of b w) (upper_of b w)) vs) any)

is_empty-none : (b : PlainBounds) (point : List ℤ) → IsWithin b point → is_empty b ≡ true → ⊥
unfolding is_empty
is_empty-none b point h any = any_crosses-none b variables point h any

-- ---- a form with one value that fails the test

fails_fixed-none : (a : PlainKeyAtom) (lo hi : Option ℤ) (x : ℤ) → IfSome lo (λ n. n ≤ℤ x) → IfSome hi (λ n. x ≤ℤ n)
    → passes a.op a.constant x ≡ true → fails_fixed a lo hi ≡ true → ⊥
fails_fixed-none a None hi x f g holds h = absurd (cc)
fails_fixed-none a (Some l) None x f g holds h = absurd (cc)
fails_fixed-none a (Some l) (Some u) x f g holds h =
    let two = and_parts (int_eq l u) (not (passes a.op a.constant l)) h in
    let same = (Decides-int_eq l u).0 two.0 in
    let value : l ≡ x = omega (arith, ints) in
    both_ways (passes a.op a.constant l) (not-true (passes a.op a.constant l) two.1)
    (subst (λ n. passes a.op a.constant n ≡ true) (sym value) holds)

fixed-none : (key : List PlainKeyAtom) (b : PlainBounds) (i : ℕ) (point : List ℤ) → IsWithin b point
    → KeyHolds key point → fixed_closes key b i ≡ true → ⊥
unfolding fixed_closes
fixed-none key b i point h holds closed =
    let found = test_found (slice_get key i) (λ a. fails_fixed a (least a.form b) (greatest a.form b)) closed in
    fails_fixed-none found.0 (least found.0.form b) (greatest found.0.form b) (form_value found.0.form point)
    (least-below found.0.form b point h) (greatest-above found.0.form b point h)
    (All-at (λ a. KeyAtomHolds a point) key i found.0 holds found.1) found.2

-- ---- a sum of multiples that are at most 0 each

scale-positive : (w x c : ℤ) → pos 0 <ℤ w → x ≤ℤ c → (w *ℤ x) ≤ℤ (w *ℤ c)
scale-positive (pos n) x c p h = scale_up n x c h
scale-positive (negsuc n) x c p h = absurd (omega (arith, ints))

scale-negative : (w x c : ℤ) → w <ℤ pos 0 → c ≤ℤ x → (w *ℤ x) ≤ℤ (w *ℤ c)
scale-negative (pos n) x c p h = absurd (omega (arith, ints))
scale-negative (negsuc n) x c p h = scale_down n c x h

-- the multiple of an atom that holds is at most 0
weight-holds : (op : Op) (f c x w : ℤ) → weight op f ≡ Some w → passes op c x ≡ true → (w *ℤ x) ≤ℤ (w *ℤ c)
weight-holds Le f c x w is holds =
    let given = chosen (is_positive_factor f) f w is in
    let positive = and_parts (is_factor f) (int_lt (pos 0) f) given.0 in
    let same : f ≡ w = given.1 in
    let above : int_lt (pos 0) f ≡ true = positive.1 in
    scale-positive w x c (omega (arith, ints)) (omega (arith, ints))
weight-holds Ge f c x w is holds =
    let given = chosen (is_positive_factor f) (neg_ℤ f) w is in
    let positive = and_parts (is_factor f) (int_lt (pos 0) f) given.0 in
    let same : neg_ℤ f ≡ w = given.1 in
    let above : int_lt (pos 0) f ≡ true = positive.1 in
    scale-negative w x c (omega (arith, ints)) (omega (arith, ints))
weight-holds Eq f c x w is holds =
    let same = ap (λ (n : ℤ). w *ℤ n) ((Decides-int_eq x c).0 holds) in omega (arith, ints)
weight-holds Ne f c x w is holds = absurd (cc)

-- the atom that a term names holds wherever the point is in the box
named-holds : (key : List PlainKeyAtom) (box : PlainBox) (on : On) (a : PlainKeyAtom) (point : List ℤ)
    → KeyHolds key point → IsInBox key box point → named key box.sides on ≡ Some a → KeyAtomHolds a point
named-holds key box (OnAtom i) a point holds h is = All-at (λ b. KeyAtomHolds b point) key i a holds is
named-holds key box (OnSide k) a point holds h is =
    let found = bound_some (slice_get box.sides k) (side_atom key) a is in
    subst (λ o. IfSome o (λ b. KeyAtomHolds b point)) found.2
    (All-at (λ side. IfSome (side_atom key side) (λ b. KeyAtomHolds b point)) box.sides k found.0 h.on_sides found.1)

-- what is needed of the forms of a key: their variables are below 64
abbrev pub AreNarrow : List PlainKeyAtom → Type 0
AreNarrow key = All (λ a. All (λ t. t.var < 64) a.form) key

beside-form : (a : PlainKeyAtom) (upper : Bool) → a.form ≡ (beside a upper).form
beside-form a true = refl
beside-form a false = refl

pub named-narrow : (key : List PlainKeyAtom) (sides : List Side) (on : On) (a : PlainKeyAtom) → AreNarrow key
    → named key sides on ≡ Some a → All (λ t. t.var < 64) a.form
named-narrow key sides (OnAtom i) a narrow is = All-at (λ b. All (λ t. t.var < 64) b.form) key i a narrow is
named-narrow key sides (OnSide k) a narrow is =
    let side = bound_some (slice_get sides k) (side_atom key) a is in
    let found = mapped_some (slice_get key side.0.atom) (λ b. beside b side.0.upper) a side.2 in
    subst (λ f. All (λ t. t.var < 64) f) (beside-form found.0 side.0.upper ∙ ap (λ (b : PlainKeyAtom). b.form) found.2)
    (All-at (λ b. All (λ t. t.var < 64) b.form) key side.0.atom found.0 narrow found.1)

-- the multiples of a combination: narrow, and at most 0 in all
record AreSound (point : List ℤ) (ms : List Multiple) : Type 0 where
  narrow : All (λ m. All (λ t. t.var < 64) m.form) ms
  at_most : total_of ms point ≤ℤ summed_constant ms

-- one multiple: narrow, and at most 0
record IsSound (point : List ℤ) (m : Multiple) : Type 0 where
  narrow : All (λ t. t.var < 64) m.form
  at_most : (m.weight *ℤ form_value m.form point) ≤ℤ (m.weight *ℤ m.constant)

multiple-sound : (key : List PlainKeyAtom) (box : PlainBox) (term : LeafTerm) (m : Multiple) (point : List ℤ)
    → AreNarrow key → KeyHolds key point → IsInBox key box point → multiple_of key box.sides term ≡ Some m
    → IsSound point m
multiple-sound key box term m point narrow holds h is =
    let found = bound_some (named key box.sides term.on) (λ a. weighted a term.factor) m is in
    let a = found.0 in
    let weighed = mapped_some (weight a.op term.factor)
    (λ w. record { form = a.form; constant = a.constant; weight = w }) m found.2 in
    subst (IsSound point) weighed.2 (record {
      narrow = named-narrow key box.sides term.on a narrow found.1;
      at_most = weight-holds a.op term.factor a.constant (form_value a.form point) weighed.0 weighed.1
          (named-holds key box term.on a point holds h found.1);
    })

one_more : (m : Multiple) (ms : List Multiple) (point : List ℤ) → IsSound point m → AreSound point ms
    → AreSound point (m ∷ ms)
unfolding total_of
one_more m ms point first rest = record {
  narrow = All-cons (λ m. All (λ t. t.var < 64) m.form) m ms first.narrow rest.narrow;
  at_most = omega (arith, ints, first.at_most, rest.at_most);
}

multiples-sound : (key : List PlainKeyAtom) (box : PlainBox) (terms : List LeafTerm) (ms : List Multiple)
    (point : List ℤ) → AreNarrow key → KeyHolds key point → IsInBox key box point
    → multiples_of key box.sides terms ≡ Some ms → AreSound point ms
unfolding total_of
multiples-sound key box [] ms point narrow holds h is =
    let none : [] ≡ ms = cc in
    subst (AreSound point) none (record {
      narrow = All-nil (λ m. All (λ t. t.var < 64) m.form);
      at_most = omega (arith, ints);
    })
multiples-sound key box (term ∷ terms) ms point narrow holds h is =
    let first = bound_some (multiple_of key box.sides term)
    (λ m. option_map (λ ms. m ∷ ms) (multiples_of key box.sides terms)) ms is in
    let rest = mapped_some (multiples_of key box.sides terms) (λ ms. first.0 ∷ ms) ms first.2 in
    subst (AreSound point) rest.2 (one_more first.0 rest.0 point
    (multiple-sound key box term first.0 point narrow holds h first.1)
    (multiples-sound key box terms rest.0 point narrow holds h rest.1))

positive_sum-none : (b : PlainBounds) (ms : List Multiple) (point : List ℤ) → IsWithin b point → AreSound point ms
    → is_positive_sum b ms ≡ true → ⊥
unfolding is_positive_sum
positive_sum-none b ms point h sound positive =
    let found = test_found (least (summed_form ms) b) (λ n. int_lt (pos 0) (n -ℤ summed_constant ms)) positive in
    let below : found.0 ≤ℤ form_value (summed_form ms) point = subst
    (λ o. IfSome o (λ n. n ≤ℤ form_value (summed_form ms) point)) found.1 (least-below (summed_form ms) b point h) in
    omega (arith, ints, below, found.2, summed_form-value ms point sound.narrow, sound.at_most)

combo-none : (key : List PlainKeyAtom) (box : PlainBox) (terms : List LeafTerm) (point : List ℤ) → AreNarrow key
    → KeyHolds key point → IsInBox key box point → combo_closes key box terms ≡ true → ⊥
unfolding combo_closes
combo-none key box terms point narrow holds h closed =
    let long = and_parts (nat_le 1 (length terms)) (nat_le (length terms) 8
    && option_map_or (is_positive_sum box.bounds) (multiples_of key box.sides terms) false) closed in
    let short = and_parts (nat_le (length terms) 8)
    (option_map_or (is_positive_sum box.bounds) (multiples_of key box.sides terms) false) long.1 in
    let found = test_found (multiples_of key box.sides terms) (is_positive_sum box.bounds) short.1 in
    positive_sum-none box.bounds found.0 point h.within
    (multiples-sound key box terms found.0 point narrow holds h found.1) found.2

-- ---- the three leaves

pub closes-none : (key : List PlainKeyAtom) (box : PlainBox) (leaf : PlainLeaf) (point : List ℤ) → AreNarrow key
    → KeyHolds key point → IsInBox key box point → closes key box leaf ≡ true → ⊥
closes-none key box (combo terms) point narrow holds h closed = combo-none key box terms point narrow holds h closed
closes-none key box (fixed i) point narrow holds h closed = fixed-none key box.bounds i point h.within holds closed
closes-none key box empty point narrow holds h closed = is_empty-none box.bounds point h.within closed

-- the forms of a key are narrow
pub IsKey-narrow : (key : List PlainKeyAtom) → IsKey key → AreNarrow key
IsKey-narrow key is = λ k d lt. (is.canonical k d lt).form.variables.in_range
