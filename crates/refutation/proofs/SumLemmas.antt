-- Sums kept as one coefficient for each variable.
use Rattle.std.proofs.Common.{◌≡◌, ℕ, ◌+◌, ◌*◌, ◌^◌, ◌<◌, ◌≤◌, ℤ, pos, ◌+ℤ◌, ◌*ℤ◌, Bool, true, false, cond, eqb, Option}
use Rattle.std.proofs.Common.{Some, None, List, [], ◌∷◌, length, get_or, set, drop, replicate, unsigned_abs, ⊎_elim, ap}
use Rattle.std.proofs.Common.{sym, ◌∙◌, subst, arith}
use Rattle.std.specs.List.{All}
use Rattle.std.proofs.lemmas.Bool.{cases_eq, cond-true, cond-false, eq-eqb, ne_eqb}
use Rattle.std.proofs.lemmas.Int.{ints, unsigned_abs-mul}
use Rattle.std.proofs.lemmas.List.{get_or-set_same, get_or-set_other, drop_more}
use Rattle.std.proofs.lemmas.List.FromFn.{get_or-map-range_with_len, length-map-range_with_len}
use Rattle.std.proofs.lemmas.List.Elements.{All-head, All-tail}
use Rattle.std.proofs.Math.ListN.{drop_of_length-le}
use Rattle.std.proofs.Math.Nat.{mul-le-mul, mul-le-mul_right}
use Rattle.lin_model.specs.declared.form.FormTerm.{FormTerm}
use Rattle.lin_model.specs.KeyAtom.{IsCanonicalForm}
use Rattle.lin_model.specs.Integers.{distrib_left}
use Rattle.refutation.specs.Bounds.{PlainBounds, lower_of, upper_of, variables, add_known, scaled_side, least}
use Rattle.refutation.specs.Leaf.{coefficient_of, Multiple}
use Rattle.refutation.specs.Sum.{PlainSum, coef_at, dense_form, AddsMultiple, IsSum}
use Rattle.refutation.proofs.BoundsLemmas.{get_or-same, least_step, least_missing, least_end}

-- ---- the sum of nothing

pub zero_at : (coefs : List ℤ) (v : ℕ) → coefs ≡ replicate 64 (pos 0) → get_or coefs v (pos 0) ≡ pos 0
zero_at coefs v is = ap (λ (xs : List ℤ). get_or xs v (pos 0)) is ∙ get_or-same 64 v (pos 0)

-- ---- one form more

-- the next term changes its own variable alone
pub scaled_step : (coefs : List ℤ) (form : List FormTerm) (weight : ℤ) (i : ℕ) (d : FormTerm) (var : ℕ) (more new : ℤ)
    (v : ℕ) (whole : ℤ) → i < length form → var ≡ (get_or form i d).var → more ≡ weight *ℤ (get_or form i d).coef
    → new ≡ get_or coefs var (pos 0) +ℤ more → var < length coefs
    → get_or coefs v (pos 0) +ℤ (weight *ℤ coefficient_of (drop i form) v) ≡ whole
    → get_or (set coefs var new) v (pos 0) +ℤ (weight *ℤ coefficient_of (drop (i + 1) form) v) ≡ whole
scaled_step coefs form weight i d var more new v whole lt is product added within before =
    let t = get_or form i d in
    let rest = coefficient_of (drop (i + 1) form) v in
    let unfolded : coefficient_of (drop i form) v ≡ (cond (eqb t.var v) t.coef (pos 0)) +ℤ rest =
    ap (λ (f : List FormTerm). coefficient_of f v) (drop_more form i d lt) in
    let scaled = ap (λ (n : ℤ). weight *ℤ n) unfolded in
    let split = distrib_left weight (cond (eqb t.var v) t.coef (pos 0)) rest in
    ⊎_elim (λ same. let hit = ap (λ (n : ℤ). weight *ℤ n)
    (cond-true (eqb t.var v) t.coef (pos 0) (eq-eqb t.var v (sym is ∙ same))) in
    let read = ap (λ (u : ℕ). get_or coefs u (pos 0)) same in
    let written : get_or (set coefs var new) v (pos 0)
    ≡ new = subst (λ u. get_or (set coefs var new) u (pos 0) ≡ new) same (get_or-set_same coefs var new (pos 0) within)
    in
    omega (arith, ints, scaled, split, hit, read, written, before, added, product))
    (λ other. let missed = ap (λ (n : ℤ). weight *ℤ n)
    (cond-false (eqb t.var v) t.coef (pos 0) (ne_eqb t.var v (λ e. other (is ∙ e)))) in
    let kept : get_or (set coefs var new) v (pos 0) ≡ get_or coefs v (pos 0) = get_or-set_other coefs var v new (pos 0)
    (λ e. other (sym e)) in
    omega (arith, ints, scaled, split, missed, kept, before)) (cases_eq var v)

pub scaled_end : (form : List FormTerm) (weight old : ℤ) (i v : ℕ) (whole : ℤ) → length form ≤ i
    → old +ℤ (weight *ℤ coefficient_of (drop i form) v) ≡ whole → old ≡ whole
scaled_end form weight old i v whole le h =
    omega (arith, ints, h, ap (λ (f : List FormTerm). weight *ℤ coefficient_of f v) (drop_of_length-le form le))

-- what a coefficient may come to in a form, and its multiple by a weight
coefficient_of-size : (form : List FormTerm) (v : ℕ) → All (λ t. unsigned_abs t.coef < 2 ^ 40) form
    → unsigned_abs (coefficient_of form v) ≤ 2 ^ 40 * length form
coefficient_of-size [] v small = omega arith
coefficient_of-size (t ∷ ts) v small =
    let first = cond_size (eqb t.var v) t.coef (All-head (λ u. unsigned_abs u.coef < 2 ^ 40) t ts small) in
    let rest = coefficient_of-size ts v (All-tail (λ u. unsigned_abs u.coef < 2 ^ 40) t ts small) in
    omega (arith, ints, first, rest)
  where
    cond_size : (b : Bool) (n : ℤ) → unsigned_abs n < 2 ^ 40 → unsigned_abs (cond b n (pos 0)) ≤ 2 ^ 40
    cond_size true n h = omega (arith, h)
    cond_size false n h = omega arith

multiple_size : (form : List FormTerm) (weight : ℤ) (v : ℕ) → IsCanonicalForm form → unsigned_abs weight ≤ 2 ^ 31
    → unsigned_abs (weight *ℤ coefficient_of form v) ≤ 2 ^ 77
multiple_size form weight v canonical small =
    let bound : unsigned_abs (coefficient_of form v)
    ≤ 2 ^ 46 = omega (arith, coefficient_of-size form v canonical.coefficients.small, canonical.few_terms) in
    omega (arith, unsigned_abs-mul weight (coefficient_of form v), mul-le-mul small bound)

-- the limits of a sum are kept by one multiple more
pub IsSum-more : (old new : PlainSum) (m : Multiple) → IsSum old → AddsMultiple old new m → old.count < 8
    → length new.coefs ≡ 64 → IsCanonicalForm m.form → unsigned_abs m.weight ≤ 2 ^ 31
    → unsigned_abs (m.weight *ℤ m.constant) ≤ 2 ^ 82 → IsSum new
IsSum-more old new m is adds few len canonical small constant = record {
  len = len;
  few = omega (arith, adds.count);
  coefs = λ v lt. omega (
    arith,
    ints,
    adds.coefs v lt,
    is.coefs v lt,
    multiple_size m.form m.weight v canonical small,
    adds.count,
  );
  constant = omega (arith, ints, adds.constant, is.constant, constant, adds.count);
}

-- ---- the least value of a sum

dense_form-at : (coefs : List ℤ) (v : ℕ) (d : FormTerm) → v < 64
    → get_or (dense_form coefs) v d ≡ record { var = v; coef = get_or coefs v (pos 0) }
unfolding dense_form variables
dense_form-at coefs v d lt =
    get_or-map-range_with_len (λ w. record { var = w; coef = get_or coefs w (pos 0) }) 0 64 v v d lt (omega arith)

dense_form-len : (coefs : List ℤ) → length (dense_form coefs) ≡ 64
unfolding dense_form variables
dense_form-len coefs =
    length-map-range_with_len {X = FormTerm} (λ w. record { var = w; coef = get_or coefs w (pos 0) }) 0 64

-- the side that the term of a variable needs
dense_side : (coefs : List ℤ) (b : PlainBounds) (v : ℕ) (d : FormTerm) (side : Option ℤ) → v < 64
    → side ≡ scaled_side (get_or coefs v (pos 0)) (lower_of b v) (upper_of b v)
    → side ≡ scaled_side (get_or (dense_form coefs) v d).coef (lower_of b (get_or (dense_form coefs) v d).var)
    (upper_of b (get_or (dense_form coefs) v d).var)
dense_side coefs b v d side lt is =
    is ∙ ap (λ (t : FormTerm). scaled_side t.coef (lower_of b t.var) (upper_of b t.var))
    (sym (dense_form-at coefs v d lt))

abbrev no_term : FormTerm
no_term = record { var = 0; coef = pos 0 }

pub dense_step : (coefs : List ℤ) (b : PlainBounds) (v : ℕ) (sum value total : ℤ) (side whole : Option ℤ) → v < 64
    → side ≡ scaled_side (get_or coefs v (pos 0)) (lower_of b v) (upper_of b v) → side ≡ Some value
    → total ≡ sum +ℤ value → add_known (Some sum) (least (drop v (dense_form coefs)) b) ≡ whole
    → add_known (Some total) (least (drop (v + 1) (dense_form coefs)) b) ≡ whole
dense_step coefs b v sum value total side whole lt is known added h =
    least_step (dense_form coefs) b v no_term sum value total side whole (omega (arith, dense_form-len coefs))
    (dense_side coefs b v no_term side lt is) known added h

pub dense_missing : (coefs : List ℤ) (b : PlainBounds) (v : ℕ) (sum : ℤ) (side whole : Option ℤ) → v < 64
    → side ≡ scaled_side (get_or coefs v (pos 0)) (lower_of b v) (upper_of b v) → side ≡ None
    → add_known (Some sum) (least (drop v (dense_form coefs)) b) ≡ whole → whole ≡ None
dense_missing coefs b v sum side whole lt is missing h =
    least_missing (dense_form coefs) b v no_term sum side whole (omega (arith, dense_form-len coefs))
    (dense_side coefs b v no_term side lt is) missing h

pub dense_end : (coefs : List ℤ) (b : PlainBounds) (v : ℕ) (sum : ℤ) (whole : Option ℤ) → 64 ≤ v
    → add_known (Some sum) (least (drop v (dense_form coefs)) b) ≡ whole → Some sum ≡ whole
dense_end coefs b v sum whole le h = least_end (dense_form coefs) b v sum whole (omega (arith, dense_form-len coefs)) h

-- ---- sizes

pub weighted_size : (w n r : ℤ) → r ≡ w *ℤ n → unsigned_abs w ≤ 2 ^ 31 → unsigned_abs r ≤ 2 ^ 31 * unsigned_abs n
weighted_size w n r is small =
    omega (arith, ap unsigned_abs is, unsigned_abs-mul w n, mul-le-mul_right (unsigned_abs n) small)

-- the parts of one multiple more, its weight and constant as the code passes them
pub AddsMultiple-from_parts : (old new : PlainSum) (form : List FormTerm) (constant weight c w more : ℤ) → w ≡ weight
    → c ≡ constant → ((v : ℕ) → v < 64 → coef_at new v ≡ coef_at old v +ℤ (w *ℤ coefficient_of form v))
    → new.constant ≡ old.constant +ℤ more → more ≡ w *ℤ c → new.count ≡ old.count + 1
    → AddsMultiple old new (record { form = form; constant = constant; weight = weight })
AddsMultiple-from_parts old new form constant weight c w more same_weight same_constant coefs added product count =
    record {
      coefs = λ v lt. coefs v lt ∙ ap (λ (x : ℤ). coef_at old v +ℤ (x *ℤ coefficient_of form v)) same_weight;
      constant = added ∙ ap (λ (x : ℤ). old.constant +ℤ x) (product ∙ ap (λ (x : ℤ). x *ℤ c) same_weight
          ∙ ap (λ (x : ℤ). weight *ℤ x) same_constant);
      count = count;
    }

pub constant_size : (w n : ℤ) → unsigned_abs w ≤ 2 ^ 31 → unsigned_abs n ≤ 2 ^ 50 → unsigned_abs (w *ℤ n) ≤ 2 ^ 82
constant_size w n h k = omega (arith, unsigned_abs-mul w n, mul-le-mul h k)
