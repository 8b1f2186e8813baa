-- The least value of the terms on other variables than one, term by term.
use Rattle.std.proofs.Common.{◌≡◌, ℕ, ◌+◌, ◌<◌, ◌≤◌, ℤ, pos, ◌+ℤ◌, Bool, true, false, cond, not, Option, Some, None}
use Rattle.std.proofs.Common.{List, ◌∷◌, drop, get_or, length, ◌==◌, ◌∙◌, refl, ap, sym, arith}
use Rattle.std.proofs.lemmas.Int.{ints}
use Rattle.std.proofs.lemmas.List.{drop_more}
use Rattle.std.proofs.Math.ListN.{drop_of_length-le}
use Rattle.lin_model.specs.declared.form.FormTerm.{FormTerm}
use Rattle.refutation.specs.Bounds.{PlainBounds, lower_of, upper_of, add_known, scaled_side, least, greatest}
use Rattle.refutation.specs.Cut.{others, other_side}
use Rattle.refutation.proofs.BoundsLemmas.{add_known-add_known, greatest-swapped}

pub add_known-zero : (o : Option ℤ) → add_known (Some (pos 0)) o ≡ o
add_known-zero None = refl
add_known-zero (Some x) = let same : pos 0 +ℤ x ≡ x = omega (arith, ints) in ap Some same

-- one term before the others of the rest
others-cons : (t : FormTerm) (ts : List FormTerm) (b : PlainBounds) (v : ℕ)
    → least (others (t ∷ ts) v) b ≡ add_known (other_side b v t) (least (others ts v) b)
unfolding least
others-cons t ts b v = by_test (t.var == v)
  where
    by_test : (test : Bool)
        → least (cond (not test) (t ∷ others ts v) (others ts v)) b
        ≡ add_known (cond test (Some (pos 0)) (scaled_side t.coef (lower_of b t.var) (upper_of b t.var)))
        (least (others ts v) b)
    by_test true = sym (add_known-zero (least (others ts v) b))
    by_test false = refl

-- the others of the rest, one term on
others-rest : (form : List FormTerm) (b : PlainBounds) (v i : ℕ) (d : FormTerm) → i < length form
    → least (others (drop i form) v) b
    ≡ add_known (other_side b v (get_or form i d)) (least (others (drop (i + 1) form) v) b)
others-rest form b v i d lt =
    ap (λ (xs : List FormTerm). least (others xs v) b) (drop_more form i d lt)
    ∙ others-cons (get_or form i d) (drop (i + 1) form) b v

-- a loop's step: one more value is known, or a side is missing
pub others_step : (form : List FormTerm) (b : PlainBounds) (v i : ℕ) (d : FormTerm) (sum value total : ℤ)
    (side whole : Option ℤ) → i < length form → side ≡ other_side b v (get_or form i d) → side ≡ Some value
    → total ≡ sum +ℤ value → add_known (Some sum) (least (others (drop i form) v) b) ≡ whole
    → add_known (Some total) (least (others (drop (i + 1) form) v) b) ≡ whole
others_step form b v i d sum value total side whole lt is known added h =
    ap (λ (x : ℤ). add_known (Some x) (least (others (drop (i + 1) form) v) b)) added
    ∙ add_known-add_known sum value (least (others (drop (i + 1) form) v) b)
    ∙ ap (λ (o : Option ℤ). add_known (Some sum) (add_known o (least (others (drop (i + 1) form) v) b))) (sym known ∙ is)
    ∙ ap (add_known (Some sum)) (sym (others-rest form b v i d lt)) ∙ h

pub others_missing : (form : List FormTerm) (b : PlainBounds) (v i : ℕ) (d : FormTerm) (sum : ℤ) (side whole : Option ℤ)
    → i < length form → side ≡ other_side b v (get_or form i d) → side ≡ None
    → add_known (Some sum) (least (others (drop i form) v) b) ≡ whole → whole ≡ None
others_missing form b v i d sum side whole lt is missing h =
    sym h ∙ ap (add_known (Some sum)) (others-rest form b v i d lt
    ∙ ap (λ (o : Option ℤ). add_known o (least (others (drop (i + 1) form) v) b)) (sym is ∙ missing))

pub others_end : (form : List FormTerm) (b : PlainBounds) (v i : ℕ) (sum : ℤ) (whole : Option ℤ) → length form ≤ i
    → add_known (Some sum) (least (others (drop i form) v) b) ≡ whole → Some sum ≡ whole
unfolding least
others_end form b v i sum whole le h =
    let same : sum ≡ sum +ℤ pos 0 = omega (arith, ints) in
    ap Some same
    ∙ ap (λ (xs : List FormTerm). add_known (Some sum) (least (others xs v) b)) (sym (drop_of_length-le form le)) ∙ h

-- the greatest value is the least with the sides exchanged
pub others-swapped : (form : List FormTerm) (v : ℕ) (lo hi : List (Option ℤ))
    → least (others form v) (record { lower = hi; upper = lo })
    ≡ greatest (others form v) (record { lower = lo; upper = hi })
others-swapped form v lo hi = greatest-swapped (others form v) lo hi
