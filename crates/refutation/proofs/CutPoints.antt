-- The points of a box keep the bound that an atom gives, and for `<=` and `>=` one of them reaches it.
use Rattle.std.proofs.Common.{◌≡◌, ℕ, zero, suc, ◌-◌, ◌*◌, ◌%◌, ◌<◌, ℤ, pos, negsuc, neg_ℤ, ◌+ℤ◌}
use Rattle.std.proofs.Common.{◌-ℤ◌, ◌*ℤ◌, ◌≤ℤ◌, Bool, true, false, not, cond, Option, Some, None, IfSome}
use Rattle.std.proofs.Common.{List, [], ◌∷◌, ◌==◌, refl, ap, sym, ◌∙◌, subst, arith}
use Rattle.std.specs.Option.{option_map, option_and_then}
use Rattle.std.proofs.lemmas.Bool.{eqb-true}
use Rattle.std.proofs.lemmas.Bool.Decides.{Decides-int_eq}
use Rattle.std.proofs.lemmas.Int.{ints, by_lt_z}
use Rattle.lin_model.specs.declared.form.FormTerm.{FormTerm}
use Rattle.lin_model.specs.declared.op.Op.{Op}
use Rattle.lin_model.specs.declared.op.Op.TheVariants.{Le, Ge, Eq, Ne}
use Rattle.lin_model.specs.Form.{value_at, form_value}
use Rattle.lin_model.specs.Integers.{distrib_left, distrib_right, scale_up}
use Rattle.lin_model.specs.KeyAtom.{PlainKeyAtom}
use Rattle.lin_model.specs.Quotients.{floor_div, ceil_div}
use Rattle.lin_model.specs.Test.{passes}
use Rattle.refutation.specs.Bounds.{PlainBounds, lower_of, upper_of, least, greatest, IsWithin}
use Rattle.refutation.specs.Cut.{PlainCut, cut, others, has_sides, chosen_cut, first_some, kept_if, counts_as_lower}
use Rattle.refutation.specs.Cut.{counts_as_upper, lower_that_counts, upper_that_counts, lower_cut, upper_cut}
use Rattle.refutation.specs.Cut.{lower_by_le, lower_by_ge, upper_by_le, upper_by_ge, most_left, least_left}
use Rattle.refutation.specs.Cut.{lower_at_most, upper_at_most, lower_at_least, upper_at_least}
use Rattle.refutation.specs.CutLaws.{IsKept, CutsKeepPoints}
use Rattle.refutation.specs.Leaf.{coefficient_of}
use Rattle.refutation.proofs.Sums.{least-below, greatest-above}
use Rattle.std.proofs.Math.Nat.{mod-lt, div-add-mod}
use borrow.Author.Differences.{up, down, neg_is}

-- ---- quotients

floor_div-rest : (c : ℤ) (g : ℕ) → 0 < g → (r : ℕ) × (r < g) × (c ≡ (pos g *ℤ floor_div c g) +ℤ pos r)
floor_div-rest (pos a) g h = (a % g, mod-lt a h, omega (arith, ints, div-add-mod a g))
floor_div-rest (negsuc a) g h =
    let low : a % g < g = mod-lt a h in
    (g - 1 - a % g, omega arith, omega (arith, ints, div-add-mod a g))

floor_div-above : (w c : ℤ) (g : ℕ) → 0 < g → (pos g *ℤ w) ≤ℤ c → w ≤ℤ floor_div c g
floor_div-above w c g h below =
    let q = floor_div c g in
    let rest = floor_div-rest c g h in
    by_lt_z q w (λ less. absurd (omega (
      arith,
      ints,
      rest.1,
      rest.2,
      distrib_left (pos g) q (pos 1),
      scale_up g (q +ℤ pos 1) w (omega (arith, ints)),
    ))) (λ le. le)

floor_div-below : (c : ℤ) (g : ℕ) → 0 < g → (pos g *ℤ floor_div c g) ≤ℤ c
floor_div-below c g h = let rest = floor_div-rest c g h in omega (arith, ints, rest.2)

-- a negative number times another, by its size
minus_times : (k : ℕ) (x : ℤ) → negsuc k *ℤ x ≡ neg_ℤ (pos (suc k) *ℤ x)
minus_times k x = omega (arith, ints, distrib_right (negsuc k) (pos (suc k)) x)

times_minus : (k : ℕ) (x : ℤ) → pos k *ℤ neg_ℤ x ≡ neg_ℤ (pos k *ℤ x)
times_minus k x =
    omega (
      arith,
      ints,
      ap (λ (n : ℕ). up (pos k) * n) (neg_is x).0,
      ap (λ (n : ℕ). down (pos k) * n) (neg_is x).0,
      ap (λ (n : ℕ). up (pos k) * n) (neg_is x).1,
      ap (λ (n : ℕ). down (pos k) * n) (neg_is x).1,
    )

pub neg_times : (a x : ℤ) → neg_ℤ a *ℤ x ≡ neg_ℤ (a *ℤ x)
neg_times a x =
    omega (
      arith,
      ints,
      ap (λ (n : ℕ). n * up x) (neg_is a).0,
      ap (λ (n : ℕ). n * down x) (neg_is a).0,
      ap (λ (n : ℕ). n * up x) (neg_is a).1,
      ap (λ (n : ℕ). n * down x) (neg_is a).1,
    )

-- what `a * x <= m` says of x
lower-of_at_most : (a m n x : ℤ) → lower_at_most a m ≡ Some n → (a *ℤ x) ≤ℤ m → n ≤ℤ x
lower-of_at_most (pos k) m n x is h = absurd (cc)
lower-of_at_most (negsuc k) m n x is h =
    let same : ceil_div (neg_ℤ m) (suc k) ≡ n = cc in
    let above = floor_div-above (neg_ℤ x) (neg_ℤ (neg_ℤ m)) (suc k) (omega arith)
    (omega (arith, ints, h, minus_times k x, times_minus (suc k) x)) in
    omega (arith, ints, same, above)

upper-of_at_most : (a m n x : ℤ) → upper_at_most a m ≡ Some n → (a *ℤ x) ≤ℤ m → x ≤ℤ n
upper-of_at_most (pos zero) m n x is h = absurd (cc)
upper-of_at_most (pos (suc k)) m n x is h =
    let same : floor_div m (suc k) ≡ n = cc in
    omega (arith, ints, same, floor_div-above x m (suc k) (omega arith) h)
upper-of_at_most (negsuc k) m n x is h = absurd (cc)

-- and that the bound itself keeps it
pub lower-keeps : (a m n : ℤ) → lower_at_most a m ≡ Some n → (a *ℤ n) ≤ℤ m
lower-keeps (pos k) m n is = absurd (cc)
lower-keeps (negsuc k) m n is =
    let same : ceil_div (neg_ℤ m) (suc k) ≡ n = cc in
    let q = floor_div (neg_ℤ (neg_ℤ m)) (suc k) in
    let below = floor_div-below (neg_ℤ (neg_ℤ m)) (suc k) (omega arith) in
    let value : negsuc k *ℤ n ≡ pos (suc k) *ℤ q = ap (λ (x : ℤ). negsuc k *ℤ x) (sym same)
    ∙ minus_times k (neg_ℤ q) ∙ ap neg_ℤ (times_minus (suc k) q) ∙ omega (arith, ints) in
    omega (arith, ints, value, below)

pub upper-keeps : (a m n : ℤ) → upper_at_most a m ≡ Some n → (a *ℤ n) ≤ℤ m
upper-keeps (pos zero) m n is = absurd (cc)
upper-keeps (pos (suc k)) m n is =
    let same : floor_div m (suc k) ≡ n = cc in
    let value = ap (λ (x : ℤ). pos (suc k) *ℤ x) (sym same) in
    omega (arith, ints, value, floor_div-below m (suc k) (omega arith))
upper-keeps (negsuc k) m n is = absurd (cc)

-- the bound that a comparison gives, from those of `<=` and `>=`
abbrev pub by_comparison : Option ℤ → Option ℤ → Op → Option ℤ
by_comparison le ge Le = le
by_comparison le ge Ge = ge
by_comparison le ge Eq = first_some le ge
by_comparison le ge Ne = None

-- ---- the value of a form, by one variable and the others

pub split-value : (form : List FormTerm) (v : ℕ) (point : List ℤ)
    → form_value form point ≡ (coefficient_of form v *ℤ value_at point v) +ℤ form_value (others form v) point
split-value [] v point = omega (arith, ints)
split-value (t ∷ ts) v point =
    by_test (t.var == v) refl (split-value ts v point)
  where
    by_test : (test : Bool) → (t.var == v) ≡ test
        → form_value ts point ≡ (coefficient_of ts v *ℤ value_at point v) +ℤ form_value (others ts v) point
        → form_value (t ∷ ts) point
        ≡ ((cond test t.coef (pos 0) +ℤ coefficient_of ts v) *ℤ value_at point v)
        +ℤ form_value (cond (not test) (t ∷ others ts v) (others ts v)) point
    by_test true is rest =
        let same : t.var ≡ v = eqb-true t.var v is in
        let value = ap (λ (w : ℕ). t.coef *ℤ value_at point w) same in
        omega (arith, ints, rest, value, distrib_right t.coef (coefficient_of ts v) (value_at point v))
    by_test false is rest =
        omega (arith, ints, rest, distrib_right (pos 0) (coefficient_of ts v) (value_at point v))

-- ---- what an atom leaves for one variable

-- the least value of the others, where it is known
most-left : (b : PlainBounds) (a : PlainKeyAtom) (v : ℕ) (m : ℤ) (point : List ℤ) → IsWithin b point
    → most_left b a v ≡ Some m → form_value a.form point ≤ℤ a.constant
    → (coefficient_of a.form v *ℤ value_at point v) ≤ℤ m
most-left b a v m point within is below =
    by_rest (least (others a.form v) b) (least-below (others a.form v) b point within) is
  where
    by_rest : (o : Option ℤ) → IfSome o (λ n. n ≤ℤ form_value (others a.form v) point)
        → option_map (λ r. a.constant -ℤ r) o ≡ Some m → (coefficient_of a.form v *ℤ value_at point v) ≤ℤ m
    by_rest None low is = absurd (cc)
    by_rest (Some r) low is =
        let same : a.constant -ℤ r ≡ m = cc in
        omega (arith, ints, same, low, below, split-value a.form v point)

least-left : (b : PlainBounds) (a : PlainKeyAtom) (v : ℕ) (m : ℤ) (point : List ℤ) → IsWithin b point
    → least_left b a v ≡ Some m → a.constant ≤ℤ form_value a.form point
    → m ≤ℤ (coefficient_of a.form v *ℤ value_at point v)
least-left b a v m point within is above =
    by_rest (greatest (others a.form v) b) (greatest-above (others a.form v) b point within) is
  where
    by_rest : (o : Option ℤ) → IfSome o (λ n. form_value (others a.form v) point ≤ℤ n)
        → option_map (λ r. a.constant -ℤ r) o ≡ Some m → m ≤ℤ (coefficient_of a.form v *ℤ value_at point v)
    by_rest None high is = absurd (cc)
    by_rest (Some r) high is =
        let same : a.constant -ℤ r ≡ m = cc in
        omega (arith, ints, same, high, above, split-value a.form v point)

-- what both are known by
pub and_then-known : (f : ℤ → Option ℤ) (o : Option ℤ) (n : ℤ) → option_and_then f o ≡ Some n
    → (m : ℤ) × (o ≡ Some m) × (f m ≡ Some n)
and_then-known f None n is = absurd (cc)
and_then-known f (Some m) n is = (m, refl, is)

lower_le-keeps : (b : PlainBounds) (a : PlainKeyAtom) (v : ℕ) (n : ℤ) (point : List ℤ) → IsWithin b point
    → lower_by_le b a v ≡ Some n → form_value a.form point ≤ℤ a.constant → n ≤ℤ value_at point v
lower_le-keeps b a v n point within is below =
    let known = and_then-known (lower_at_most (coefficient_of a.form v)) (most_left b a v) n is in
    lower-of_at_most (coefficient_of a.form v) known.0 n (value_at point v) known.2
    (most-left b a v known.0 point within known.1 below)

upper_le-keeps : (b : PlainBounds) (a : PlainKeyAtom) (v : ℕ) (n : ℤ) (point : List ℤ) → IsWithin b point
    → upper_by_le b a v ≡ Some n → form_value a.form point ≤ℤ a.constant → value_at point v ≤ℤ n
upper_le-keeps b a v n point within is below =
    let known = and_then-known (upper_at_most (coefficient_of a.form v)) (most_left b a v) n is in
    upper-of_at_most (coefficient_of a.form v) known.0 n (value_at point v) known.2
    (most-left b a v known.0 point within known.1 below)

turned : (a m x : ℤ) → m ≤ℤ (a *ℤ x) → (neg_ℤ a *ℤ x) ≤ℤ neg_ℤ m
turned a m x h = omega (arith, ints, h, neg_times a x)

lower_ge-keeps : (b : PlainBounds) (a : PlainKeyAtom) (v : ℕ) (n : ℤ) (point : List ℤ) → IsWithin b point
    → lower_by_ge b a v ≡ Some n → a.constant ≤ℤ form_value a.form point → n ≤ℤ value_at point v
lower_ge-keeps b a v n point within is above =
    let known = and_then-known (lower_at_least (coefficient_of a.form v)) (least_left b a v) n is in
    lower-of_at_most (neg_ℤ (coefficient_of a.form v)) (neg_ℤ known.0) n (value_at point v) known.2
    (turned (coefficient_of a.form v) known.0 (value_at point v) (least-left b a v known.0 point within known.1 above))

upper_ge-keeps : (b : PlainBounds) (a : PlainKeyAtom) (v : ℕ) (n : ℤ) (point : List ℤ) → IsWithin b point
    → upper_by_ge b a v ≡ Some n → a.constant ≤ℤ form_value a.form point → value_at point v ≤ℤ n
upper_ge-keeps b a v n point within is above =
    let known = and_then-known (upper_at_least (coefficient_of a.form v)) (least_left b a v) n is in
    upper-of_at_most (neg_ℤ (coefficient_of a.form v)) (neg_ℤ known.0) n (value_at point v) known.2
    (turned (coefficient_of a.form v) known.0 (value_at point v) (least-left b a v known.0 point within known.1 above))

-- ---- the atom's own comparison

-- the value is at most the constant, or at least, where the comparison says so
abbrev IsAtMost : PlainKeyAtom → List ℤ → Type 0
IsAtMost a point = form_value a.form point ≤ℤ a.constant

abbrev IsAtLeast : PlainKeyAtom → List ℤ → Type 0
IsAtLeast a point = a.constant ≤ℤ form_value a.form point

lower_cut-keeps : (op : Op) (b : PlainBounds) (a : PlainKeyAtom) (v : ℕ) (n : ℤ) (point : List ℤ) → a.op ≡ op
    → IsWithin b point → lower_cut b a v ≡ Some n → passes op a.constant (form_value a.form point) ≡ true
    → n ≤ℤ value_at point v
unfolding lower_cut
lower_cut-keeps Le b a v n point same within is holds =
    lower_le-keeps b a v n point within (sym (ap (by_comparison (lower_by_le b a v) (lower_by_ge b a v)) same) ∙ is)
    (omega (arith, ints, holds))
lower_cut-keeps Ge b a v n point same within is holds =
    lower_ge-keeps b a v n point within (sym (ap (by_comparison (lower_by_le b a v) (lower_by_ge b a v)) same) ∙ is)
    (omega (arith, ints, holds))
lower_cut-keeps Eq b a v n point same within is holds =
    by_first (lower_by_le b a v) refl (sym (ap (by_comparison (lower_by_le b a v) (lower_by_ge b a v)) same) ∙ is)
  where
    equal : form_value a.form point ≡ a.constant
    equal = (Decides-int_eq (form_value a.form point) a.constant).0 holds

    by_first : (o : Option ℤ) → lower_by_le b a v ≡ o → first_some o (lower_by_ge b a v) ≡ Some n → n ≤ℤ value_at point v
    by_first None none is = lower_ge-keeps b a v n point within is (omega (arith, ints, equal))
    by_first (Some m) some is = lower_le-keeps b a v n point within (some ∙ is) (omega (arith, ints, equal))
lower_cut-keeps Ne b a v n point same within is holds =
    absurd (none (sym (ap (by_comparison (lower_by_le b a v) (lower_by_ge b a v)) same) ∙ is))
  where
    none : None ≡ Some n → ⊥
    none e = absurd (cc)

upper_cut-keeps : (op : Op) (b : PlainBounds) (a : PlainKeyAtom) (v : ℕ) (n : ℤ) (point : List ℤ) → a.op ≡ op
    → IsWithin b point → upper_cut b a v ≡ Some n → passes op a.constant (form_value a.form point) ≡ true
    → value_at point v ≤ℤ n
unfolding upper_cut
upper_cut-keeps Le b a v n point same within is holds =
    upper_le-keeps b a v n point within (sym (ap (by_comparison (upper_by_le b a v) (upper_by_ge b a v)) same) ∙ is)
    (omega (arith, ints, holds))
upper_cut-keeps Ge b a v n point same within is holds =
    upper_ge-keeps b a v n point within (sym (ap (by_comparison (upper_by_le b a v) (upper_by_ge b a v)) same) ∙ is)
    (omega (arith, ints, holds))
upper_cut-keeps Eq b a v n point same within is holds =
    by_first (upper_by_le b a v) refl (sym (ap (by_comparison (upper_by_le b a v) (upper_by_ge b a v)) same) ∙ is)
  where
    equal : form_value a.form point ≡ a.constant
    equal = (Decides-int_eq (form_value a.form point) a.constant).0 holds

    by_first : (o : Option ℤ) → upper_by_le b a v ≡ o → first_some o (upper_by_ge b a v) ≡ Some n → value_at point v ≤ℤ n
    by_first None none is = upper_ge-keeps b a v n point within is (omega (arith, ints, equal))
    by_first (Some m) some is = upper_le-keeps b a v n point within (some ∙ is) (omega (arith, ints, equal))
upper_cut-keeps Ne b a v n point same within is holds =
    absurd (none (sym (ap (by_comparison (upper_by_le b a v) (upper_by_ge b a v)) same) ∙ is))
  where
    none : None ≡ Some n → ⊥
    none e = absurd (cc)

-- ---- the cut

-- what is kept is there, and passes
kept-known : (test : ℤ → Bool) (o : Option ℤ) (n : ℤ) → kept_if test o ≡ Some n → (o ≡ Some n) × (test n ≡ true)
kept-known test None n is = absurd (cc)
kept-known test (Some m) n is = by_test (test m) refl is
  where
    by_test : (t : Bool) → test m ≡ t → cond t (Some m) None ≡ Some n → (Some m ≡ Some n) × (test n ≡ true)
    by_test true passed is = let same : m ≡ n = cc in (is, subst (λ (x : ℤ). test x ≡ true) same passed)
    by_test false failed is = absurd (cc)

-- a cut is a lower bound that counts, or an upper one
pub cut-cases : (b : PlainBounds) (a : PlainKeyAtom) (v : ℕ) (c : PlainCut) (P : PlainCut → Type 0)
    → ((n : ℤ) → lower_cut b a v ≡ Some n → counts_as_lower (lower_of b v) (upper_of b v) n ≡ true
    → P (record { value = n; upper = false }))
    → ((n : ℤ) → upper_cut b a v ≡ Some n → counts_as_upper (lower_of b v) (upper_of b v) n ≡ true
    → P (record { value = n; upper = true })) → cut b a v ≡ Some c → P c
unfolding cut
cut-cases b a v c P by_lower by_upper is = by_sides (has_sides b a.form) is
  where
    by_bounds : (lower upper : Option ℤ) → lower ≡ lower_that_counts b a v → upper ≡ upper_that_counts b a v
        → chosen_cut lower upper ≡ Some c → P c
    by_bounds None None f g is = absurd (cc)
    by_bounds None (Some n) f g is =
        let same : record { value = n; upper = true } ≡ c = cc in
        let known = kept-known (counts_as_upper (lower_of b v) (upper_of b v)) (upper_cut b a v) n (sym g) in
        subst P same (by_upper n known.0 known.1)
    by_bounds (Some n) upper f g is =
        let same : record { value = n; upper = false } ≡ c = cc in
        let known = kept-known (counts_as_lower (lower_of b v) (upper_of b v)) (lower_cut b a v) n (sym f) in
        subst P same (by_lower n known.0 known.1)

    by_sides : (test : Bool) → cond test (chosen_cut (lower_that_counts b a v) (upper_that_counts b a v)) None ≡ Some c
        → P c
    by_sides true is = by_bounds (lower_that_counts b a v) (upper_that_counts b a v) refl refl is
    by_sides false is = absurd (cc)

pub keep_points : CutsKeepPoints
keep_points b a v c point canonical bounds is within holds =
    cut-cases b a v c (λ (d : PlainCut). IsKept d.upper d.value (value_at point v))
    (λ n lower counts. lower_cut-keeps a.op b a v n point refl within lower holds)
    (λ n upper counts. upper_cut-keeps a.op b a v n point refl within upper holds) is
