-- The least value of a form bounds its values in a box, and a sum of multiples is worth what its parts are worth.
use Rattle.std.proofs.Common.{◌≡◌, ℕ, zero, suc, ◌+◌, ◌<◌, ◌≤◌, ℤ, pos, negsuc, ◌+ℤ◌, ◌*ℤ◌, ◌≤ℤ◌, Option}
use Rattle.std.proofs.Common.{Some, None, IfSome, List, [], ◌∷◌, map, refl, ap, arith, ⊎_elim}
use Rattle.std.specs.List.{All, range_with_len}
use Rattle.std.proofs.lemmas.Int.{ints}
use Rattle.std.proofs.lemmas.Bool.{cases_lt}
use Rattle.std.proofs.lemmas.List.Elements.{All-head, All-tail}
use Rattle.lin_model.specs.declared.form.FormTerm.{FormTerm}
use Rattle.lin_model.specs.Form.{value_at, form_value}
use Rattle.lin_model.specs.Integers.{distrib_right, distrib_left, times_assoc, scale_up, scale_down}
use Rattle.lin_model.specs.Integers.{only_at, only_at-other, only_at-same}
use Rattle.refutation.specs.Bounds.{PlainBounds, lower_of, upper_of, variables, add_known, scaled_side, least, greatest}
use Rattle.refutation.specs.Bounds.{IsWithin}
use Rattle.refutation.specs.Leaf.{coefficient_of, Multiple, summed_coefficient, summed_form}

-- ---- the least and the greatest value

add_known-below : (o q : Option ℤ) (x y : ℤ) → IfSome o (λ n. n ≤ℤ x) → IfSome q (λ n. n ≤ℤ y)
    → IfSome (add_known o q) (λ n. n ≤ℤ (x +ℤ y))
add_known-below None q x y f g = tt
add_known-below (Some m) None x y f g = tt
add_known-below (Some m) (Some n) x y f g = omega (arith, ints)

add_known-above : (o q : Option ℤ) (x y : ℤ) → IfSome o (λ n. x ≤ℤ n) → IfSome q (λ n. y ≤ℤ n)
    → IfSome (add_known o q) (λ n. (x +ℤ y) ≤ℤ n)
add_known-above None q x y f g = tt
add_known-above (Some m) None x y f g = tt
add_known-above (Some m) (Some n) x y f g = omega (arith, ints)

scaled_side-below : (k : ℤ) (lo hi : Option ℤ) (x : ℤ) → IfSome lo (λ n. n ≤ℤ x) → IfSome hi (λ n. x ≤ℤ n)
    → IfSome (scaled_side k lo hi) (λ n. n ≤ℤ (k *ℤ x))
scaled_side-below (pos zero) lo hi x f g = omega (arith, ints)
scaled_side-below (pos (suc k)) None hi x f g = tt
scaled_side-below (pos (suc k)) (Some n) hi x f g = scale_up (suc k) n x f
scaled_side-below (negsuc k) lo None x f g = tt
scaled_side-below (negsuc k) lo (Some n) x f g = scale_down k x n g

scaled_side-above : (k : ℤ) (lo hi : Option ℤ) (x : ℤ) → IfSome lo (λ n. n ≤ℤ x) → IfSome hi (λ n. x ≤ℤ n)
    → IfSome (scaled_side k hi lo) (λ n. (k *ℤ x) ≤ℤ n)
scaled_side-above (pos zero) lo hi x f g = omega (arith, ints)
scaled_side-above (pos (suc k)) lo None x f g = tt
scaled_side-above (pos (suc k)) lo (Some n) x f g = scale_up (suc k) x n g
scaled_side-above (negsuc k) None hi x f g = tt
scaled_side-above (negsuc k) (Some n) hi x f g = scale_down k n x f

-- no value within the bounds is below the least
pub least-below : (form : List FormTerm) (b : PlainBounds) (point : List ℤ) → IsWithin b point
    → IfSome (least form b) (λ n. n ≤ℤ form_value form point)
unfolding least
least-below [] b point h = omega (arith, ints)
least-below (t ∷ ts) b point h =
    add_known-below (scaled_side t.coef (lower_of b t.var) (upper_of b t.var)) (least ts b)
    (t.coef *ℤ value_at point t.var) (form_value ts point)
    (scaled_side-below t.coef (lower_of b t.var) (upper_of b t.var) (value_at point t.var) (h.above t.var)
    (h.below t.var)) (least-below ts b point h)

-- and none is above the greatest
pub greatest-above : (form : List FormTerm) (b : PlainBounds) (point : List ℤ) → IsWithin b point
    → IfSome (greatest form b) (λ n. form_value form point ≤ℤ n)
unfolding greatest
greatest-above [] b point h = omega (arith, ints)
greatest-above (t ∷ ts) b point h =
    add_known-above (scaled_side t.coef (upper_of b t.var) (lower_of b t.var)) (greatest ts b)
    (t.coef *ℤ value_at point t.var) (form_value ts point)
    (scaled_side-above t.coef (lower_of b t.var) (upper_of b t.var) (value_at point t.var) (h.above t.var)
    (h.below t.var)) (greatest-above ts b point h)

-- ---- a sum of multiples

-- the form with this coefficient for each of the variables
abbrev form_of : (ℕ → ℤ) → List ℕ → List FormTerm
form_of f vs = map (λ v. record { var = v; coef = f v }) vs

form_of-added : (f g : ℕ → ℤ) (vs : List ℕ) (point : List ℤ)
    → form_value (form_of (λ v. f v +ℤ g v) vs) point
    ≡ form_value (form_of f vs) point +ℤ form_value (form_of g vs) point
form_of-added f g [] point = omega (arith, ints)
form_of-added f g (v ∷ vs) point =
    omega (arith, ints, distrib_right (f v) (g v) (value_at point v), form_of-added f g vs point)

form_of-scaled : (k : ℤ) (f : ℕ → ℤ) (vs : List ℕ) (point : List ℤ)
    → form_value (form_of (λ v. k *ℤ f v) vs) point ≡ k *ℤ form_value (form_of f vs) point
form_of-scaled k f [] point = omega (arith, ints)
form_of-scaled k f (v ∷ vs) point =
    omega (
      arith,
      ints,
      times_assoc k (f v) (value_at point v),
      form_of-scaled k f vs point,
      distrib_left k
          (f v *ℤ value_at point v) (form_value (form_of f vs) point),
    )

form_of-zero : (vs : List ℕ) (point : List ℤ) → form_value (form_of (λ v. pos 0) vs) point ≡ pos 0
form_of-zero [] point = refl
form_of-zero (v ∷ vs) point = omega (arith, ints, form_of-zero vs point)

-- one coefficient alone: nothing at other variables, and its term where the variable is in the range
form_of-before : (w : ℕ) (k : ℤ) (a n : ℕ) (point : List ℤ) → w < a
    → form_value (form_of (only_at w k) (range_with_len a n)) point ≡ pos 0
form_of-before w k a zero point h = refl
form_of-before w k a (suc n) point h =
    omega (
      arith,
      ints,
      ap (λ (c : ℤ). c *ℤ value_at point a) (only_at-other w k a (omega arith)),
      form_of-before w k
          (a + 1) n point (omega arith),
    )

form_of-one : (w : ℕ) (k : ℤ) (a n : ℕ) (point : List ℤ) → a ≤ w → w < a + n
    → form_value (form_of (only_at w k) (range_with_len a n)) point ≡ k *ℤ value_at point w
form_of-one w k a zero point low high = absurd (omega arith)
form_of-one w k a (suc n) point low high =
    ⊎_elim (λ lt. omega (
      arith,
      ints,
      ap (λ (c : ℤ). c *ℤ value_at point a) (only_at-other w k a (omega arith)),
      form_of-one
          w k (a + 1) n point (omega arith) (omega arith),
    )) (λ ge. let same : w ≡ a = omega arith in
    omega (
      arith,
      ints,
      ap (λ (c : ℤ). c *ℤ value_at point a) (only_at-same w k a same),
      ap (λ (v : ℕ). k *ℤ value_at point v) same,
      form_of-before w k (a + 1) n point (omega arith),
    )) (cases_lt a w)

-- the form with its terms gathered is worth the same
form_of-gathered : (form : List FormTerm) (n : ℕ) (point : List ℤ) → All (λ t. t.var < n) form
    → form_value (form_of (coefficient_of form) (range_with_len 0 n)) point ≡ form_value form point
form_of-gathered [] n point narrow = form_of-zero (range_with_len 0 n) point
form_of-gathered (t ∷ ts) n point narrow =
    omega (
      arith,
      ints,
      form_of-added (only_at t.var t.coef) (coefficient_of ts) (range_with_len 0 n) point,
      form_of-one
          t.var t.coef 0 n point (omega arith) (omega (arith, All-head (λ u. u.var < n) t ts narrow)),
      form_of-gathered ts n
          point (All-tail (λ u. u.var < n) t ts narrow),
    )

-- what the multiples are worth, each without its constant
unfoldable pub total_of : List Multiple → List ℤ → ℤ
total_of [] point = pos 0
total_of (m ∷ ms) point = (m.weight *ℤ form_value m.form point) +ℤ total_of ms point

summed-value : (ms : List Multiple) (n : ℕ) (point : List ℤ) → All (λ m. All (λ t. t.var < n) m.form) ms
    → form_value (form_of (summed_coefficient ms) (range_with_len 0 n)) point ≡ total_of ms point
unfolding total_of
summed-value [] n point narrow = form_of-zero (range_with_len 0 n) point
summed-value (m ∷ ms) n point narrow =
    let gathered = ap (λ (x : ℤ). m.weight *ℤ x)
    (form_of-gathered m.form n point (All-head (λ m. All (λ t. t.var < n) m.form) m ms narrow)) in
    omega (
      arith,
      ints,
      form_of-added (λ v. m.weight *ℤ coefficient_of m.form v) (summed_coefficient ms)
          (range_with_len 0 n) point,
      form_of-scaled m.weight (coefficient_of m.form) (range_with_len 0 n) point,
      gathered,
      summed-value ms n point (All-tail (λ m. All (λ t. t.var < n) m.form) m ms narrow),
    )

-- the sum as one form is worth the total
pub summed_form-value : (ms : List Multiple) (point : List ℤ) → All (λ m. All (λ t. t.var < 64) m.form) ms
    → form_value (summed_form ms) point ≡ total_of ms point
unfolding summed_form variables
summed_form-value ms point narrow = summed-value ms 64 point narrow
