-- Where the points that satisfy a key lie: in the key's bounds, and after a split in one of the halves.
use Rattle.std.proofs.Common.{◌≡◌, ℕ, zero, suc, ℤ, pos, neg_ℤ, ◌+ℤ◌, ◌-ℤ◌, ◌*ℤ◌, ◌≤ℤ◌, ◌<ℤ◌, Bool, true, false, not}
use Rattle.std.proofs.Common.{cond, Option, Some, None, IfSome, IsTrue, List, [], ◌∷◌, map, get_or, set, slice_get, ◌⊎◌}
use Rattle.std.proofs.Common.{inl, inr, ⊎_elim, refl, ap, sym, subst, arith, eqb, eqb-true, int_lt, int_le}
use Rattle.std.specs.Int.{int_min, int_max}
use Rattle.std.specs.Ordering.{int_eq}
use Rattle.std.specs.Option.{option_map}
use Rattle.std.proofs.lemmas.Bool.{cases_lt, not-true, both_ways}
use Rattle.std.proofs.lemmas.Bool.Decides.{Decides-int_eq}
use Rattle.std.proofs.lemmas.Int.{ints, clamps, by_lt_z}
use Rattle.std.proofs.lemmas.List.{get_or_past}
use Rattle.std.proofs.lemmas.List.FromFn.{get_or-map-range_with_len, length-map-range_with_len}
use Rattle.std.proofs.lemmas.List.Elements.{All-head, All-tail, All-push}
use borrow.Author.Differences.{true_is_le, le_out}
use Rattle.lin_model.specs.declared.form.FormTerm.{FormTerm}
use Rattle.lin_model.specs.declared.op.Op.{Op}
use Rattle.lin_model.specs.declared.op.Op.TheVariants.{Le, Ge, Eq, Ne}
use Rattle.lin_model.specs.Form.{value_at, form_value}
use Rattle.lin_model.specs.KeyAtom.{PlainKeyAtom, KeyAtomHolds}
use Rattle.lin_model.specs.Key.{KeyHolds}
use Rattle.lin_model.specs.Test.{passes}
use Rattle.lin_model.specs.Lists.{All-at}
use Rattle.refutation.specs.Bounds.{PlainBounds, lower_of, upper_of, variables, side_limit, lower_side, upper_side}
use Rattle.refutation.specs.Bounds.{is_variable, lower_by, upper_by, tighter_lower, tighter_upper, lower_bound}
use Rattle.refutation.specs.Bounds.{upper_bound, key_bounds, with_lower, with_upper, IsWithin}
use Rattle.refutation.specs.Box.{PlainBox, root_box, beside, side_atom, IsInBox, is_ne, is_ne_op, left_half, right_half}
use Rattle.refutation.specs.Box.{on_side}
use Rattle.refutation.specs.Reading.{names_ne}
use Rattle.refutation.proofs.LookUps.{test_found}

-- ---- tests

int_eq-apart : (a b : ℤ) → not (int_eq a b) ≡ true → (a <ℤ b) ⊎ (b <ℤ a)
int_eq-apart a b h =
    by_lt_z a b (λ less. inl less) (λ above. by_lt_z b a (λ more. inr more)
    (λ below. absurd (both_ways (int_eq a b) (not-true (int_eq a b) h) ((Decides-int_eq a b).1 (omega (arith, ints))))))

pub le_test : (a b : ℤ) → a ≤ℤ b → int_le a b ≡ true
le_test a b h = sym (true_is_le a b (le_out a b h))

both_true : (b c : Bool) → cond b c false ≡ true → (b ≡ true) × (c ≡ true)
both_true true c h = (refl, h)
both_true false c h = absurd (cc)

-- a choice that has a value only where the test holds
pub if_some : (b : Bool) (o : Option ℤ) (P : ℤ → Type 0) → (b ≡ true → IfSome o P) → IfSome (cond b o None) P
if_some true o P h = h refl
if_some false o P h = tt

-- ---- what an atom says of a variable

is_variable-value : (form : List FormTerm) (v : ℕ) (point : List ℤ) → is_variable form v ≡ true
    → form_value form point ≡ value_at point v
is_variable-value [] v point h = absurd (cc)
is_variable-value (t ∷ []) v point h =
    let two = both_true (eqb t.var v) (int_eq t.coef (pos 1)) h in
    let var : t.var ≡ v = eqb-true t.var v two.0 in
    let coef : t.coef ≡ pos 1 = (Decides-int_eq t.coef (pos 1)).0 two.1 in
    omega (arith, ints, ap (λ (k : ℤ). k *ℤ value_at point t.var) coef, ap (value_at point) var)
is_variable-value (t ∷ u ∷ ts) v point h = absurd (cc)

unless-keeps : (b : Bool) (m : ℤ) (P : ℤ → Type 0) → P m → IfSome (cond b None (Some m)) P
unless-keeps true m P h = tt
unless-keeps false m P h = h

lower_side-below : (c x : ℤ) → c ≤ℤ x → IfSome (lower_side c) (λ n. n ≤ℤ x)
lower_side-below c x h =
    unless-keeps (int_lt c (neg_ℤ side_limit)) (int_min c side_limit) (λ n. n ≤ℤ x) (omega (arith, ints, clamps))

upper_side-above : (c x : ℤ) → x ≤ℤ c → IfSome (upper_side c) (λ n. x ≤ℤ n)
upper_side-above c x h =
    unless-keeps (int_lt side_limit c) (int_max c (neg_ℤ side_limit)) (λ n. x ≤ℤ n) (omega (arith, ints, clamps))

lower_by-below : (op : Op) (c x : ℤ) → IsTrue (passes op c x) → IfSome (lower_by op c) (λ n. n ≤ℤ x)
lower_by-below Le c x h = tt
lower_by-below Ge c x h = lower_side-below c x (omega (arith, ints))
lower_by-below Eq c x h = let same = (Decides-int_eq x c).0 h in lower_side-below c x (omega (arith, ints))
lower_by-below Ne c x h = tt

upper_by-above : (op : Op) (c x : ℤ) → IsTrue (passes op c x) → IfSome (upper_by op c) (λ n. x ≤ℤ n)
upper_by-above Le c x h = upper_side-above c x (omega (arith, ints))
upper_by-above Ge c x h = tt
upper_by-above Eq c x h = let same = (Decides-int_eq x c).0 h in upper_side-above c x (omega (arith, ints))
upper_by-above Ne c x h = tt

tighter_lower-below : (o q : Option ℤ) (x : ℤ) → IfSome o (λ n. n ≤ℤ x) → IfSome q (λ n. n ≤ℤ x)
    → IfSome (tighter_lower o q) (λ n. n ≤ℤ x)
tighter_lower-below None q x f g = g
tighter_lower-below (Some m) None x f g = f
tighter_lower-below (Some m) (Some n) x f g = omega (arith, ints, clamps)

tighter_upper-above : (o q : Option ℤ) (x : ℤ) → IfSome o (λ n. x ≤ℤ n) → IfSome q (λ n. x ≤ℤ n)
    → IfSome (tighter_upper o q) (λ n. x ≤ℤ n)
tighter_upper-above None q x f g = g
tighter_upper-above (Some m) None x f g = f
tighter_upper-above (Some m) (Some n) x f g = omega (arith, ints, clamps)

-- ---- the bounds of a key

lower_bound-below : (atoms : List PlainKeyAtom) (v : ℕ) (point : List ℤ) → KeyHolds atoms point
    → IfSome (lower_bound atoms v) (λ n. n ≤ℤ value_at point v)
lower_bound-below [] v point holds = tt
lower_bound-below (a ∷ atoms) v point holds =
    tighter_lower-below (cond (is_variable a.form v) (lower_by a.op a.constant) None) (lower_bound atoms v)
    (value_at point v) (if_some (is_variable a.form v) (lower_by a.op a.constant) (λ n. n ≤ℤ value_at point v)
    (λ is. lower_by-below a.op a.constant (value_at point v)
    (subst (λ n. IsTrue (passes a.op a.constant n)) (is_variable-value a.form v point is)
    (All-head (λ b. KeyAtomHolds b point) a atoms holds))))
    (lower_bound-below atoms v point (All-tail (λ b. KeyAtomHolds b point) a atoms holds))

upper_bound-above : (atoms : List PlainKeyAtom) (v : ℕ) (point : List ℤ) → KeyHolds atoms point
    → IfSome (upper_bound atoms v) (λ n. value_at point v ≤ℤ n)
upper_bound-above [] v point holds = tt
upper_bound-above (a ∷ atoms) v point holds =
    tighter_upper-above (cond (is_variable a.form v) (upper_by a.op a.constant) None) (upper_bound atoms v)
    (value_at point v) (if_some (is_variable a.form v) (upper_by a.op a.constant) (λ n. value_at point v ≤ℤ n)
    (λ is. upper_by-above a.op a.constant (value_at point v)
    (subst (λ n. IsTrue (passes a.op a.constant n)) (is_variable-value a.form v point is)
    (All-head (λ b. KeyAtomHolds b point) a atoms holds))))
    (upper_bound-above atoms v point (All-tail (λ b. KeyAtomHolds b point) a atoms holds))

-- the element at v of a list over the variables
pub over_variables : (f : ℕ → Option ℤ) (v : ℕ) (Q : Option ℤ → Type 0) → Q (f v) → Q None
    → Q (get_or (map f variables) v None)
unfolding variables
over_variables f v Q here past =
    ⊎_elim (λ lt. subst Q (sym (get_or-map-range_with_len f 0 64 v v None lt (omega arith))) here)
    (λ le. subst Q (sym (get_or_past (map f variables) v None (omega (arith, length-map-range_with_len f 0 64)))) past)
    (cases_lt v 64)

pub key_bounds-within : (key : List PlainKeyAtom) (point : List ℤ) → KeyHolds key point
    → IsWithin (key_bounds key) point
unfolding key_bounds
key_bounds-within key point holds = record {
  above = λ v. over_variables (lower_bound key) v (λ o. IfSome o (λ n. n ≤ℤ value_at point v))
      (lower_bound-below key v point holds) tt;
  below = λ v. over_variables (upper_bound key) v (λ o. IfSome o (λ n. value_at point v ≤ℤ n))
      (upper_bound-above key v point holds) tt;
}

-- a point that satisfies a key lies in its root box
pub root_box-has : (key : List PlainKeyAtom) (point : List ℤ) → KeyHolds key point → IsInBox key (root_box key) point
root_box-has key point holds =
    record { within = key_bounds-within key point holds; on_sides = λ k d lt. absurd (omega arith) }

-- ---- splits

-- what holds at j holds there after a write at i that keeps it
pub set-keeps : {X : Type 0} (xs : List X) (i : ℕ) (y : X) (j : ℕ) (d : X) (Q : X → Type 0) → (j ≡ i → Q y)
    → Q (get_or xs j d) → Q (get_or (set xs i y) j d)
set-keeps [] i y j d Q f h = h
set-keeps (x ∷ xs) zero y zero d Q f h = f refl
set-keeps (x ∷ xs) zero y (suc j) d Q f h = h
set-keeps (x ∷ xs) (suc i) y zero d Q f h = h
set-keeps (x ∷ xs) (suc i) y (suc j) d Q f h = set-keeps xs i y j d Q (λ e. f (ap suc e)) h

with_upper-within : (b : PlainBounds) (v : ℕ) (n : ℤ) (point : List ℤ) → IsWithin b point → value_at point v ≤ℤ n
    → IsWithin (with_upper b v n) point
with_upper-within b v n point h le = record {
  above = h.above;
  below = λ w. set-keeps b.upper v (tighter_upper (upper_of b v) (Some n)) w None
      (λ o. IfSome o (λ m. value_at point w ≤ℤ m))
      (λ same. subst (λ u. IfSome (tighter_upper (upper_of b v) (Some n)) (λ m. value_at point u ≤ℤ m)) (sym same)
      (tighter_upper-above (upper_of b v) (Some n) (value_at point v) (h.below v) le)) (h.below w);
}

with_lower-within : (b : PlainBounds) (v : ℕ) (n : ℤ) (point : List ℤ) → IsWithin b point → n ≤ℤ value_at point v
    → IsWithin (with_lower b v n) point
with_lower-within b v n point h le = record {
  above = λ w. set-keeps b.lower v (tighter_lower (lower_of b v) (Some n)) w None
      (λ o. IfSome o (λ m. m ≤ℤ value_at point w))
      (λ same. subst (λ u. IfSome (tighter_lower (lower_of b v) (Some n)) (λ m. m ≤ℤ value_at point u)) (sym same)
      (tighter_lower-below (lower_of b v) (Some n) (value_at point v) (h.above v) le)) (h.above w);
  below = h.below;
}

-- a point in a box is in the left or in the right half
pub split-covers : (key : List PlainKeyAtom) (box : PlainBox) (v : ℕ) (cut : ℤ) (point : List ℤ) → IsInBox key box point
    → IsInBox key (left_half box v cut) point ⊎ IsInBox key (right_half box v cut) point
split-covers key box v cut point h =
    by_lt_z cut (value_at point v)
    (λ above. inr (record {
      within = with_lower-within box.bounds v (cut +ℤ pos 1) point h.within (omega (arith, ints));
      on_sides = h.on_sides;
    }))
    (λ below. inl (record { within = with_upper-within box.bounds v cut point h.within below; on_sides = h.on_sides }))

is_ne_op-ne : (o : Op) → is_ne_op o ≡ true → o ≡ Ne
is_ne_op-ne Le h = absurd (cc)
is_ne_op-ne Ge h = absurd (cc)
is_ne_op-ne Eq h = absurd (cc)
is_ne_op-ne Ne h = refl

beside-covers : (a : PlainKeyAtom) (point : List ℤ) → is_ne a ≡ true → KeyAtomHolds a point
    → KeyAtomHolds (beside a false) point ⊎ KeyAtomHolds (beside a true) point
beside-covers a point ne holds =
    let n = form_value a.form point in
    let apart = int_eq-apart n a.constant (subst (λ o. IsTrue (passes o a.constant n)) (is_ne_op-ne a.op ne) holds) in
    ⊎_elim (λ less. inl (le_test n (a.constant -ℤ pos 1) (omega (arith, ints))))
    (λ more. inr (le_test (a.constant +ℤ pos 1) n (omega (arith, ints)))) apart

-- a point on one side of an atom is in that half
one_side : (key : List PlainKeyAtom) (box : PlainBox) (i : ℕ) (a : PlainKeyAtom) (upper : Bool) (point : List ℤ)
    → slice_get key i ≡ Some a → IsInBox key box point → KeyAtomHolds (beside a upper) point
    → IsInBox key (on_side box i upper) point
one_side key box i a upper point is h kept = record {
  within = h.within;
  on_sides = All-push (λ side. IfSome (side_atom key side) (λ b. KeyAtomHolds b point)) box.sides
      (record { atom = i; upper = upper }) h.on_sides
      (subst (λ o. IfSome (option_map (λ b. beside b upper) o) (λ b. KeyAtomHolds b point)) (sym is) kept);
}

-- a point in a box that satisfies the key is on one side of each of its atoms `form != c`
pub sides-cover : (key : List PlainKeyAtom) (box : PlainBox) (i : ℕ) (point : List ℤ) → names_ne key i ≡ true
    → KeyHolds key point → IsInBox key box point → IsInBox key (on_side box i false) point
    ⊎ IsInBox key (on_side box i true) point
sides-cover key box i point ne holds h =
    let found = test_found (slice_get key i) is_ne ne in
    ⊎_elim (λ low. inl (one_side key box i found.0 false point found.1 h low))
    (λ high. inr (one_side key box i found.0 true point found.1 h high))
    (beside-covers found.0 point found.2 (All-at (λ a. KeyAtomHolds a point) key i found.0 holds found.1))
