-- The corners lie within bounds that aren't empty, and what forms are worth there.
use Rattle.std.proofs.Common.{◌≡◌, ⊎_elim, ℕ, ◌+◌, ◌<◌, ◌≤◌, ℤ, pos, ◌+ℤ◌, ◌*ℤ◌, ◌≤ℤ◌, Bool, true, false, Option, Some}
use Rattle.std.proofs.Common.{None, IfSome, List, length, get_or, drop, ap, sym, subst, arith}
use Rattle.std.specs.Option.{unwrap_or}
use Rattle.std.proofs.lemmas.Bool.{cases_lt}
use Rattle.std.proofs.lemmas.Int.{ints}
use Rattle.std.proofs.lemmas.List.{get_or_past, drop_more}
use Rattle.std.proofs.lemmas.List.FromFn.{get_or-map-range_with_len}
use Rattle.std.proofs.Math.ListN.{drop_of_length-le}
use Rattle.lin_model.specs.declared.form.FormTerm.{FormTerm}
use Rattle.lin_model.specs.Form.{value_at, form_value}
use Rattle.refutation.specs.Bounds.{PlainBounds, lower_of, upper_of, variables, crosses, is_empty, IsWithin, AreBounds}
use Rattle.refutation.specs.Facts.{not_crossed}
use Rattle.combos.specs.Corner.{corner, corner_side}

-- the corner's value of a variable
pub corner-at : (b : PlainBounds) (highest : Bool) (v : ℕ) → v < 64
    → value_at (corner b highest) v ≡ corner_side b highest v
unfolding corner variables
corner-at b highest v lt = get_or-map-range_with_len (corner_side b highest) 0 64 v v (pos 0) lt (omega arith)

-- it is between the sides that are there
record IsBetween (lo hi : Option ℤ) (x : ℤ) : Type 0 where
  above : IfSome lo (λ n. n ≤ℤ x)
  below : IfSome hi (λ n. x ≤ℤ n)

lower_first : (lo hi : Option ℤ) → crosses lo hi ≡ false → IsBetween lo hi (unwrap_or lo (unwrap_or hi (pos 0)))
lower_first None None h = record { above = tt; below = tt }
lower_first None (Some u) h = record { above = tt; below = omega (arith, ints) }
lower_first (Some l) None h = record { above = omega (arith, ints); below = tt }
lower_first (Some l) (Some u) h = record { above = omega (arith, ints); below = grind (arith, ints) }

upper_first : (lo hi : Option ℤ) → crosses lo hi ≡ false → IsBetween lo hi (unwrap_or hi (unwrap_or lo (pos 0)))
upper_first None None h = record { above = tt; below = tt }
upper_first None (Some u) h = record { above = tt; below = omega (arith, ints) }
upper_first (Some l) None h = record { above = omega (arith, ints); below = tt }
upper_first (Some l) (Some u) h = record { above = grind (arith, ints); below = omega (arith, ints) }

side-between : (b : PlainBounds) (highest : Bool) (v : ℕ) → crosses (lower_of b v) (upper_of b v) ≡ false
    → IsBetween (lower_of b v) (upper_of b v) (corner_side b highest v)
side-between b false v h = lower_first (lower_of b v) (upper_of b v) h
side-between b true v h = upper_first (lower_of b v) (upper_of b v) h

past : (sides : List (Option ℤ)) (v : ℕ) (P : ℤ → Type 0) → length sides ≡ 64 → 64 ≤ v
    → IfSome (get_or sides v None) P
past sides v P len le =
    subst (λ (o : Option ℤ). IfSome o P) (sym (get_or_past sides v None (omega (arith, len, le)))) tt

pub corner-within : (b : PlainBounds) (highest : Bool) → AreBounds b → is_empty b ≡ false
    → IsWithin b (corner b highest)
corner-within b highest are full = record {
  above = λ v. ⊎_elim (λ lt. subst (λ (x : ℤ). IfSome (lower_of b v) (λ n. n ≤ℤ x)) (sym (corner-at b highest v lt))
      (side-between b highest v (not_crossed b v lt full)).above)
      (λ le. past b.lower v (λ n. n ≤ℤ value_at (corner b highest) v) are.lower_len le) (cases_lt v 64);
  below = λ v. ⊎_elim (λ lt. subst (λ (x : ℤ). IfSome (upper_of b v) (λ n. x ≤ℤ n)) (sym (corner-at b highest v lt))
      (side-between b highest v (not_crossed b v lt full)).below)
      (λ le. past b.upper v (λ n. value_at (corner b highest) v ≤ℤ n) are.upper_len le) (cases_lt v 64);
}

-- ---- the loop over the terms of a form

pub corner_step : (form : List FormTerm) (b : PlainBounds) (highest : Bool) (i : ℕ) (d : FormTerm) (sum value whole : ℤ)
    → i < length form → (get_or form i d).var < 64
    → value ≡ (get_or form i d).coef *ℤ corner_side b highest (get_or form i d).var
    → sum +ℤ form_value (drop i form) (corner b highest) ≡ whole
    → (sum +ℤ value) +ℤ form_value (drop (i + 1) form) (corner b highest) ≡ whole
corner_step form b highest i d sum value whole lt below is so_far =
    let t = get_or form i d in
    let unfolded = ap (λ (f : List FormTerm). form_value f (corner b highest)) (drop_more form i d lt) in
    let at = ap (λ (x : ℤ). t.coef *ℤ x) (corner-at b highest t.var below) in
    omega (arith, ints, so_far, unfolded, at, is)

pub corner_end : (form : List FormTerm) (b : PlainBounds) (highest : Bool) (i : ℕ) (sum whole : ℤ) → length form ≤ i
    → sum +ℤ form_value (drop i form) (corner b highest) ≡ whole → sum ≡ whole
corner_end form b highest i sum whole le h =
    omega (arith, ints, h, ap (λ (f : List FormTerm). form_value f (corner b highest)) (drop_of_length-le form le))
