-- For `<=` and `>=` some point of a box that satisfies the atom has just the value of the cut.
use Rattle.std.proofs.Common.{◌≡◌, ℕ, zero, suc, ◌<◌, ◌≤◌, ℤ, pos, negsuc, neg_ℤ, ◌-ℤ◌, ◌*ℤ◌, ◌≤ℤ◌}
use Rattle.std.proofs.Common.{Bool, true, false, not, ◌&&◌, cond, Option, Some, None, IfSome, is_some, int_lt, int_le}
use Rattle.std.proofs.Common.{List, [], ◌∷◌, get_or, map, ◌==◌, eqb, ⊎_elim, refl, ap, sym, ◌∙◌, subst, arith}
use Rattle.std.specs.List.{All}
use Rattle.std.specs.Option.{option_map}
use Rattle.std.proofs.lemmas.Bool.{and_parts, cases_lt, cond-false, cond-true, eq-eqb, ne_eqb, eqb-true}
use Rattle.std.proofs.lemmas.Int.{ints}
use Rattle.std.proofs.lemmas.List.{get_or_past}
use Rattle.std.proofs.lemmas.List.FromFn.{get_or-map-range_with_len}
use Rattle.lin_model.specs.declared.form.FormTerm.{FormTerm}
use Rattle.lin_model.specs.declared.op.Op.{Op}
use Rattle.lin_model.specs.declared.op.Op.TheVariants.{Le, Ge}
use Rattle.lin_model.specs.Form.{value_at, form_value}
use Rattle.lin_model.specs.KeyAtom.{PlainKeyAtom, IsCanonical}
use Rattle.lin_model.specs.Test.{passes}
use Rattle.refutation.specs.Bounds.{PlainBounds, lower_of, upper_of, variables, crosses, add_known, scaled_side, least}
use Rattle.refutation.specs.Bounds.{greatest, IsWithin, AreBounds, is_empty}
use Rattle.refutation.specs.Cut.{PlainCut, cut, others, has_sides, counts_as_lower, counts_as_upper, lower_cut, upper_cut}
use Rattle.refutation.specs.Cut.{lower_by_le, lower_by_ge, upper_by_le, upper_by_ge, most_left, least_left}
use Rattle.refutation.specs.Cut.{lower_at_most, upper_at_most, lower_at_least, upper_at_least, chosen_cut}
use Rattle.refutation.specs.Cut.{lower_that_counts, upper_that_counts}
use Rattle.refutation.specs.CutLaws.{HasPointAt, CutsAreTight}
use Rattle.refutation.specs.Facts.{not_crossed}
use Rattle.refutation.specs.Leaf.{coefficient_of}
use Rattle.refutation.proofs.CutPoints.{split-value, lower-keeps, upper-keeps, and_then-known, cut-cases, by_comparison}
use Rattle.refutation.proofs.CutPoints.{neg_times}
use Rattle.refutation.proofs.Points.{le_test}
use Rattle.refutation.proofs.UnitSums.{AscendsFrom, below_all, ascends-from_zero}

-- ---- the side at which a term is least

-- the first side, else the other, else 0
abbrev first_of : Option ℤ → Option ℤ → ℤ
first_of None None = pos 0
first_of None (Some h) = h
first_of (Some l) o = l

-- the side that a coefficient takes
abbrev attained : ℤ → Option ℤ → Option ℤ → ℤ
attained (pos k) lo hi = first_of lo hi
attained (negsuc k) lo hi = first_of hi lo

-- the multiple of that side is the least value of the term
attained-value : (c : ℤ) (lo hi : Option ℤ) → is_some lo ≡ true → is_some hi ≡ true
    → scaled_side c lo hi ≡ Some (c *ℤ attained c lo hi)
attained-value c None hi low high = absurd (cc)
attained-value c (Some l) None low high = absurd (cc)
attained-value (pos zero) (Some l) (Some h) low high =
    let same : pos 0 ≡ pos 0 *ℤ l = omega (arith, ints) in ap Some same
attained-value (pos (suc k)) (Some l) (Some h) low high = refl
attained-value (negsuc k) (Some l) (Some h) low high = refl

-- a value between both sides
abbrev IsBetween : Option ℤ → Option ℤ → ℤ → Type 0
IsBetween lo hi n = IfSome lo (λ l. l ≤ℤ n) × IfSome hi (λ h. n ≤ℤ h)

first-between : (lo hi : Option ℤ) → crosses lo hi ≡ false → IsBetween lo hi (first_of lo hi)
first-between None None h = (tt, tt)
first-between None (Some u) h = (tt, omega (arith, ints))
first-between (Some l) None h = (omega (arith, ints), tt)
first-between (Some l) (Some u) h = (omega (arith, ints), omega (arith, ints, h))

last-between : (lo hi : Option ℤ) → crosses lo hi ≡ false → IsBetween lo hi (first_of hi lo)
last-between None None h = (tt, tt)
last-between None (Some u) h = (tt, omega (arith, ints))
last-between (Some l) None h = (omega (arith, ints), tt)
last-between (Some l) (Some u) h = (omega (arith, ints, h), omega (arith, ints))

attained-between : (c : ℤ) (lo hi : Option ℤ) → crosses lo hi ≡ false → IsBetween lo hi (attained c lo hi)
attained-between (pos k) lo hi h = first-between lo hi h
attained-between (negsuc k) lo hi h = last-between lo hi h

turned-between : (c : ℤ) (lo hi : Option ℤ) → crosses lo hi ≡ false → IsBetween lo hi (attained c hi lo)
turned-between (pos k) lo hi h = last-between lo hi h
turned-between (negsuc k) lo hi h = first-between lo hi h

-- ---- a point by its values

abbrev point_of : (ℕ → ℤ) → List ℤ
point_of pick = map pick variables

point-at : (pick : ℕ → ℤ) (v : ℕ) → v < 64 → value_at (point_of pick) v ≡ pick v
unfolding variables
point-at pick v lt = get_or-map-range_with_len pick 0 64 v v (pos 0) lt (omega arith)

past-end : (b : PlainBounds) (v : ℕ) → AreBounds b → 64 ≤ v → (lower_of b v ≡ None) × (upper_of b v ≡ None)
past-end b v are past = (
  get_or_past b.lower v None (omega (arith, are.lower_len, past)),
  get_or_past b.upper v None (omega (arith, are.upper_len, past)),
)

point-within : (b : PlainBounds) (pick : ℕ → ℤ) → AreBounds b
    → ((v : ℕ) → v < 64 → IsBetween (lower_of b v) (upper_of b v) (pick v)) → IsWithin b (point_of pick)
point-within b pick are between = record { above = λ v. (at v).0; below = λ v. (at v).1 }
  where
    at : (v : ℕ) → IsBetween (lower_of b v) (upper_of b v) (value_at (point_of pick) v)
    at v =
        ⊎_elim (λ lt. subst (IsBetween (lower_of b v) (upper_of b v)) (sym (point-at pick v lt)) (between v lt))
        (λ past. let none = past-end b v are past in
        subst (λ (o : Option ℤ). IsBetween o (upper_of b v) (value_at (point_of pick) v)) (sym none.0)
        (subst (λ (o : Option ℤ). IsBetween None o (value_at (point_of pick) v)) (sym none.1) (tt, tt))) (cases_lt v 64)

-- ---- coefficients of ascending terms

-- each term has the coefficient of its variable
own-coefficients : (form : List FormTerm) (a : ℕ) → AscendsFrom a form
    → All (λ t. (a ≤ t.var) × (coefficient_of form t.var ≡ t.coef)) form
unfolding AscendsFrom
own-coefficients [] a ascends k d lt = absurd (omega (arith, lt))
own-coefficients (t ∷ ts) a ascends zero d lt =
    let hit = cond-true (eqb t.var t.var) t.coef (pos 0) (eq-eqb t.var t.var refl) in
    (ascends.0, omega (arith, ints, hit, below_all ts (suc t.var) t.var ascends.1 (omega arith)))
own-coefficients (t ∷ ts) a ascends (suc k) d lt =
    let rest = own-coefficients ts (suc t.var) ascends.1 k d (omega (arith, lt)) in
    let missed = cond-false (eqb t.var (get_or ts k d).var) t.coef (pos 0)
    (ne_eqb t.var (get_or ts k d).var (λ same. omega (arith, same, rest.0))) in
    (omega (arith, rest.0, ascends.0), omega (arith, ints, missed, rest.1))

-- ---- the others at their least, or their greatest

-- the value of each other variable is the side that its term takes
others-attained : (ts : List FormTerm) (b : PlainBounds) (v : ℕ) (point : List ℤ) → has_sides b ts ≡ true
    → All (λ t. (t.var == v) ≡ false
    → value_at point t.var ≡ attained t.coef (lower_of b t.var) (upper_of b t.var)) ts
    → least (others ts v) b ≡ Some (form_value (others ts v) point)
unfolding least
others-attained [] b v point sides at = refl
others-attained (t ∷ ts) b v point sides at =
    by_test (t.var == v) refl (others-attained ts b v point both.1 (λ k d lt. at (suc k) d (omega (arith, lt))))
  where
    both : ((is_some (lower_of b t.var) && is_some (upper_of b t.var)) ≡ true) × (has_sides b ts ≡ true)
    both = and_parts (is_some (lower_of b t.var) && is_some (upper_of b t.var)) (has_sides b ts) sides

    by_test : (test : Bool) → (t.var == v) ≡ test
        → least (others ts v) b ≡ Some (form_value (others ts v) point)
        → least (cond (not test) (t ∷ others ts v) (others ts v)) b
        ≡ Some (form_value (cond (not test) (t ∷ others ts v) (others ts v)) point)
    by_test true is rest = rest
    by_test false is rest =
        let two = and_parts (is_some (lower_of b t.var)) (is_some (upper_of b t.var)) both.0 in
        ap (λ (o : Option ℤ). add_known o (least (others ts v) b))
        (attained-value t.coef (lower_of b t.var) (upper_of b t.var) two.0 two.1
        ∙ ap (λ (n : ℤ). Some (t.coef *ℤ n)) (sym (at 0 t (omega arith) is)))
        ∙ ap (add_known (Some (t.coef *ℤ value_at point t.var))) rest

others-turned : (ts : List FormTerm) (b : PlainBounds) (v : ℕ) (point : List ℤ) → has_sides b ts ≡ true
    → All (λ t. (t.var == v) ≡ false
    → value_at point t.var ≡ attained t.coef (upper_of b t.var) (lower_of b t.var)) ts
    → greatest (others ts v) b ≡ Some (form_value (others ts v) point)
unfolding greatest
others-turned [] b v point sides at = refl
others-turned (t ∷ ts) b v point sides at =
    by_test (t.var == v) refl (others-turned ts b v point both.1 (λ k d lt. at (suc k) d (omega (arith, lt))))
  where
    both : ((is_some (lower_of b t.var) && is_some (upper_of b t.var)) ≡ true) × (has_sides b ts ≡ true)
    both = and_parts (is_some (lower_of b t.var) && is_some (upper_of b t.var)) (has_sides b ts) sides

    by_test : (test : Bool) → (t.var == v) ≡ test
        → greatest (others ts v) b ≡ Some (form_value (others ts v) point)
        → greatest (cond (not test) (t ∷ others ts v) (others ts v)) b
        ≡ Some (form_value (cond (not test) (t ∷ others ts v) (others ts v)) point)
    by_test true is rest = rest
    by_test false is rest =
        let two = and_parts (is_some (lower_of b t.var)) (is_some (upper_of b t.var)) both.0 in
        ap (λ (o : Option ℤ). add_known o (greatest (others ts v) b))
        (attained-value t.coef (upper_of b t.var) (lower_of b t.var) two.1 two.0
        ∙ ap (λ (n : ℤ). Some (t.coef *ℤ n)) (sym (at 0 t (omega arith) is)))
        ∙ ap (add_known (Some (t.coef *ℤ value_at point t.var))) rest

-- ---- the point of a cut

-- the cut's value at v, and elsewhere the side that the term takes
abbrev low_at : PlainBounds → PlainKeyAtom → ℕ → ℤ → ℕ → ℤ
low_at b a v n w = cond (w == v) n (attained (coefficient_of a.form w) (lower_of b w) (upper_of b w))

abbrev high_at : PlainBounds → PlainKeyAtom → ℕ → ℤ → ℕ → ℤ
high_at b a v n w = cond (w == v) n (attained (coefficient_of a.form w) (upper_of b w) (lower_of b w))

picks-between : (b : PlainBounds) (v : ℕ) (n : ℤ) (other : ℕ → ℤ) → IsBetween (lower_of b v) (upper_of b v) n
    → ((w : ℕ) → w < 64 → IsBetween (lower_of b w) (upper_of b w) (other w)) → (w : ℕ) → w < 64
    → IsBetween (lower_of b w) (upper_of b w) (cond (w == v) n (other w))
picks-between b v n other here each w lt = by_test (w == v) refl
  where
    by_test : (test : Bool) → (w == v) ≡ test → IsBetween (lower_of b w) (upper_of b w) (cond test n (other w))
    by_test true is =
        subst (λ (u : ℕ). IsBetween (lower_of b u) (upper_of b u) n) (sym (eqb-true w v is)) here
    by_test false is = each w lt

-- what the terms of the atom have at the point
low-terms : (b : PlainBounds) (a : PlainKeyAtom) (v : ℕ) (n : ℤ) → IsCanonical a
    → All (λ t. (t.var == v) ≡ false
    → value_at (point_of (low_at b a v n)) t.var ≡ attained t.coef (lower_of b t.var) (upper_of b t.var)) a.form
low-terms b a v n canonical k d lt missed =
    let t = get_or a.form k d in
    let own = (own-coefficients a.form 0 (ascends-from_zero a.form canonical.form.variables) k d lt).1 in
    point-at (low_at b a v n) t.var (canonical.form.variables.in_range k d lt)
    ∙ cond-false (t.var == v) n (attained (coefficient_of a.form t.var) (lower_of b t.var) (upper_of b t.var)) missed
    ∙ ap (λ (c : ℤ). attained c (lower_of b t.var) (upper_of b t.var)) own

high-terms : (b : PlainBounds) (a : PlainKeyAtom) (v : ℕ) (n : ℤ) → IsCanonical a
    → All (λ t. (t.var == v) ≡ false
    → value_at (point_of (high_at b a v n)) t.var ≡ attained t.coef (upper_of b t.var) (lower_of b t.var)) a.form
high-terms b a v n canonical k d lt missed =
    let t = get_or a.form k d in
    let own = (own-coefficients a.form 0 (ascends-from_zero a.form canonical.form.variables) k d lt).1 in
    point-at (high_at b a v n) t.var (canonical.form.variables.in_range k d lt)
    ∙ cond-false (t.var == v) n (attained (coefficient_of a.form t.var) (upper_of b t.var) (lower_of b t.var)) missed
    ∙ ap (λ (c : ℤ). attained c (upper_of b t.var) (lower_of b t.var)) own

here-value : (v : ℕ) (n other : ℤ) → cond (v == v) n other ≡ n
here-value v n other = cond-true (v == v) n other (eq-eqb v v refl)

-- what stands where the other terms are known
known-left : (c x m : ℤ) (o : Option ℤ) → o ≡ Some x → option_map (λ r. c -ℤ r) o ≡ Some m → m ≡ c -ℤ x
known-left c x m None is left = absurd (cc)
known-left c x m (Some y) is left =
    let same : y ≡ x = cc in
    let value : c -ℤ y ≡ m = cc in
    omega (arith, ints, same, value)

le-point : (b : PlainBounds) (a : PlainKeyAtom) (v : ℕ) (n m : ℤ) → IsCanonical a → AreBounds b → is_empty b ≡ false
    → a.op ≡ Le → has_sides b a.form ≡ true → v < 64 → IsBetween (lower_of b v) (upper_of b v) n
    → most_left b a v ≡ Some m → (coefficient_of a.form v *ℤ n) ≤ℤ m → HasPointAt b a v n
le-point b a v n m canonical are full op sides lt between left keeps = record {
  point = point_of (low_at b a v n);
  within = point-within b (low_at b a v n) are (picks-between b v n
      (λ w. attained (coefficient_of a.form w) (lower_of b w) (upper_of b w)) between
      (λ w less. attained-between (coefficient_of a.form w) (lower_of b w) (upper_of b w) (not_crossed b w less full)));
  holds = subst (λ (o : Op). passes o a.constant (form_value a.form (point_of (low_at b a v n))) ≡ true) (sym op)
      (le_test (form_value a.form (point_of (low_at b a v n))) a.constant
      (omega (arith, ints, split-value a.form v (point_of (low_at b a v n)), product, rest, keeps)));
  value = value;
}
  where
    value : value_at (point_of (low_at b a v n)) v ≡ n
    value = point-at (low_at b a v n) v lt
        ∙ here-value v n (attained (coefficient_of a.form v) (lower_of b v) (upper_of b v))

    product : coefficient_of a.form v *ℤ value_at (point_of (low_at b a v n)) v ≡ coefficient_of a.form v *ℤ n
    product = ap (λ (x : ℤ). coefficient_of a.form v *ℤ x) value

    rest : m ≡ a.constant -ℤ form_value (others a.form v) (point_of (low_at b a v n))
    rest = known-left a.constant (form_value (others a.form v) (point_of (low_at b a v n))) m
        (least (others a.form v) b) (others-attained a.form b v (point_of (low_at b a v n)) sides
        (low-terms b a v n canonical)) left

ge-point : (b : PlainBounds) (a : PlainKeyAtom) (v : ℕ) (n m : ℤ) → IsCanonical a → AreBounds b → is_empty b ≡ false
    → a.op ≡ Ge → has_sides b a.form ≡ true → v < 64 → IsBetween (lower_of b v) (upper_of b v) n
    → least_left b a v ≡ Some m → (neg_ℤ (coefficient_of a.form v) *ℤ n) ≤ℤ neg_ℤ m → HasPointAt b a v n
ge-point b a v n m canonical are full op sides lt between left keeps = record {
  point = point_of (high_at b a v n);
  within = point-within b (high_at b a v n) are (picks-between b v n
      (λ w. attained (coefficient_of a.form w) (upper_of b w) (lower_of b w)) between
      (λ w less. turned-between (coefficient_of a.form w) (lower_of b w) (upper_of b w) (not_crossed b w less full)));
  holds = subst (λ (o : Op). passes o a.constant (form_value a.form (point_of (high_at b a v n))) ≡ true) (sym op)
      (le_test a.constant (form_value a.form (point_of (high_at b a v n)))
      (omega (
        arith,
        ints,
        split-value a.form v (point_of (high_at b a v n)),
        product,
        rest,
        keeps,
        neg_times (coefficient_of a.form v) n,
      )));
  value = value;
}
  where
    value : value_at (point_of (high_at b a v n)) v ≡ n
    value = point-at (high_at b a v n) v lt
        ∙ here-value v n (attained (coefficient_of a.form v) (upper_of b v) (lower_of b v))

    product : coefficient_of a.form v *ℤ value_at (point_of (high_at b a v n)) v ≡ coefficient_of a.form v *ℤ n
    product = ap (λ (x : ℤ). coefficient_of a.form v *ℤ x) value

    rest : m ≡ a.constant -ℤ form_value (others a.form v) (point_of (high_at b a v n))
    rest = known-left a.constant (form_value (others a.form v) (point_of (high_at b a v n))) m
        (greatest (others a.form v) b) (others-turned a.form b v (point_of (high_at b a v n)) sides
        (high-terms b a v n canonical)) left

-- ---- bounds that count

lower-between : (lo hi : Option ℤ) (n : ℤ) → counts_as_lower lo hi n ≡ true → IsBetween lo hi n × (is_some lo ≡ true)
lower-between None hi n is = absurd (cc)
lower-between (Some l) None n is = absurd (cc)
lower-between (Some l) (Some h) n is =
    let two = and_parts (int_lt l n) (int_le n h) is in
    ((omega (arith, ints, two.0), omega (arith, ints, two.1)), refl)

upper-between : (lo hi : Option ℤ) (n : ℤ) → counts_as_upper lo hi n ≡ true → IsBetween lo hi n × (is_some lo ≡ true)
upper-between None hi n is = absurd (cc)
upper-between (Some l) None n is = absurd (cc)
upper-between (Some l) (Some h) n is =
    let two = and_parts (int_le l n) (int_lt n h) is in
    ((omega (arith, ints, two.0), omega (arith, ints, two.1)), refl)

-- a variable with a side is below 64
with-side : (b : PlainBounds) (v : ℕ) → AreBounds b → is_some (lower_of b v) ≡ true → v < 64
with-side b v are some =
    ⊎_elim (λ lt. lt) (λ past. absurd (none (sym (ap (λ (o : Option ℤ). is_some o) (past-end b v are past).0) ∙ some))) (cases_lt v 64)
  where
    none : false ≡ true → ⊥
    none e = absurd (cc)

-- a cut needs all sides
cut-sides : (b : PlainBounds) (a : PlainKeyAtom) (v : ℕ) (c : PlainCut) → cut b a v ≡ Some c → has_sides b a.form ≡ true
unfolding cut
cut-sides b a v c is = by_sides (has_sides b a.form) is
  where
    by_sides : (test : Bool) → cond test (chosen_cut (lower_that_counts b a v) (upper_that_counts b a v)) None ≡ Some c
        → test ≡ true
    by_sides true is = refl
    by_sides false is = absurd (cc)

-- ---- both comparisons

le-tight : (b : PlainBounds) (a : PlainKeyAtom) (v : ℕ) (c : PlainCut) → IsCanonical a → AreBounds b
    → is_empty b ≡ false → a.op ≡ Le → cut b a v ≡ Some c → HasPointAt b a v c.value
unfolding lower_cut upper_cut
le-tight b a v c canonical are full op is =
    cut-cases b a v c (λ (d : PlainCut). HasPointAt b a v d.value)
    (λ n lower counts.
    let known = and_then-known (lower_at_most (coefficient_of a.form v)) (most_left b a v) n
    (sym (ap (by_comparison (lower_by_le b a v) (lower_by_ge b a v)) op) ∙ lower) in
    let at = lower-between (lower_of b v) (upper_of b v) n counts in
    le-point b a v n known.0 canonical are full op (cut-sides b a v c is) (with-side b v are at.1) at.0 known.1
    (lower-keeps (coefficient_of a.form v) known.0 n known.2))
    (λ n upper counts.
    let known = and_then-known (upper_at_most (coefficient_of a.form v)) (most_left b a v) n
    (sym (ap (by_comparison (upper_by_le b a v) (upper_by_ge b a v)) op) ∙ upper) in
    let at = upper-between (lower_of b v) (upper_of b v) n counts in
    le-point b a v n known.0 canonical are full op (cut-sides b a v c is) (with-side b v are at.1) at.0 known.1
    (upper-keeps (coefficient_of a.form v) known.0 n known.2)) is

ge-tight : (b : PlainBounds) (a : PlainKeyAtom) (v : ℕ) (c : PlainCut) → IsCanonical a → AreBounds b
    → is_empty b ≡ false → a.op ≡ Ge → cut b a v ≡ Some c → HasPointAt b a v c.value
unfolding lower_cut upper_cut
ge-tight b a v c canonical are full op is =
    cut-cases b a v c (λ (d : PlainCut). HasPointAt b a v d.value)
    (λ n lower counts.
    let known = and_then-known (lower_at_least (coefficient_of a.form v)) (least_left b a v) n
    (sym (ap (by_comparison (lower_by_le b a v) (lower_by_ge b a v)) op) ∙ lower) in
    let at = lower-between (lower_of b v) (upper_of b v) n counts in
    ge-point b a v n known.0 canonical are full op (cut-sides b a v c is) (with-side b v are at.1) at.0 known.1
    (lower-keeps (neg_ℤ (coefficient_of a.form v)) (neg_ℤ known.0) n known.2))
    (λ n upper counts.
    let known = and_then-known (upper_at_least (coefficient_of a.form v)) (least_left b a v) n
    (sym (ap (by_comparison (upper_by_le b a v) (upper_by_ge b a v)) op) ∙ upper) in
    let at = upper-between (lower_of b v) (upper_of b v) n counts in
    ge-point b a v n known.0 canonical are full op (cut-sides b a v c is) (with-side b v are at.1) at.0 known.1
    (upper-keeps (neg_ℤ (coefficient_of a.form v)) (neg_ℤ known.0) n known.2)) is

pub are_tight : CutsAreTight
are_tight b a v c canonical are full op is =
    ⊎_elim (λ le. le-tight b a v c canonical are full le is) (λ ge. ge-tight b a v c canonical are full ge is) op
