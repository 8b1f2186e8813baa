-- What the cut of a variable comes to, case by case.
use Rattle.std.proofs.Common.{◌≡◌, ℕ, suc, ◌<◌, ◌≤◌, ℤ, pos, neg_ℤ, ◌+ℤ◌, Bool, true, false, cond, Option, Some, None}
use Rattle.std.proofs.Common.{if◌then◌else◌, ◌==◌, List, [], ◌∷◌, refl, ap, sym, ◌∙◌, subst, arith}
use Rattle.std.specs.List.{All}
use Rattle.std.specs.Option.{option_and_then}
use Rattle.std.proofs.lemmas.Bool.{ne_eqb}
use Rattle.std.proofs.lemmas.Int.{ints}
use Rattle.lin_model.specs.declared.form.FormTerm.{FormTerm}
use Rattle.lin_model.specs.declared.op.Op.{Op}
use Rattle.lin_model.specs.declared.op.Op.TheVariants.{Le, Ge, Eq, Ne}
use Rattle.lin_model.specs.KeyAtom.{PlainKeyAtom}
use Rattle.refutation.specs.Bounds.{PlainBounds, lower_of, upper_of}
use Rattle.refutation.specs.Cut.{PlainCut, cut, chosen_cut, has_sides, lower_that_counts, upper_that_counts, lower_cut}
use Rattle.refutation.specs.Cut.{upper_cut, lower_by_le, lower_by_ge, upper_by_le, upper_by_ge, first_some}
use Rattle.refutation.specs.Cut.{lower_at_most, upper_at_most, lower_at_least, upper_at_least, most_left, least_left}
use Rattle.refutation.specs.Cut.{kept_if, counts_as_lower, counts_as_upper}
use Rattle.refutation.specs.Leaf.{coefficient_of}

-- the bound that a comparison gives, from those of `<=` and `>=`
abbrev by_comparison : Option ℤ → Option ℤ → Op → Option ℤ
by_comparison le ge Le = le
by_comparison le ge Ge = ge
by_comparison le ge Eq = first_some le ge
by_comparison le ge Ne = None

pub cut_is : (b : PlainBounds) (a : PlainKeyAtom) (v : ℕ) → cut b a v
    ≡ (if has_sides b a.form then chosen_cut (lower_that_counts b a v) (upper_that_counts b a v) else None)
unfolding cut
cut_is b a v = refl

pub lower_cut_is : (b : PlainBounds) (a : PlainKeyAtom) (v : ℕ) → lower_cut b a v ≡ by_comparison (lower_by_le b a v) (lower_by_ge b a v) a.op
unfolding lower_cut
lower_cut_is b a v = refl

pub upper_cut_is : (b : PlainBounds) (a : PlainKeyAtom) (v : ℕ) → upper_cut b a v ≡ by_comparison (upper_by_le b a v) (upper_by_ge b a v) a.op
unfolding upper_cut
upper_cut_is b a v = refl

-- ---- a variable that the atom doesn't name

pub coefficient-absent : (form : List FormTerm) (v : ℕ) → All (λ t. t.var < 64) form → 64 ≤ v
    → coefficient_of form v ≡ pos 0
coefficient-absent [] v within past = refl
coefficient-absent (t ∷ ts) v within past =
    let other : (t.var == v) ≡ false = ne_eqb t.var v (λ same. absurd (omega (arith, same, within 0 t (omega arith)))) in
    let rest = coefficient-absent ts v (λ k d lt. within (suc k) d (omega (arith, lt))) past in
    ap (λ (test : Bool). cond test t.coef (pos 0) +ℤ coefficient_of ts v) other
    ∙ ap (λ (n : ℤ). pos 0 +ℤ n) rest

-- a coefficient of 0 gives no bound
zero-lower_le : (o : Option ℤ) → option_and_then (lower_at_most (pos 0)) o ≡ None
zero-lower_le None = refl
zero-lower_le (Some n) = refl

zero-upper_le : (o : Option ℤ) → option_and_then (upper_at_most (pos 0)) o ≡ None
zero-upper_le None = refl
zero-upper_le (Some n) = refl

zero-lower_ge : (o : Option ℤ) → option_and_then (lower_at_least (pos 0)) o ≡ None
zero-lower_ge None = refl
zero-lower_ge (Some n) = refl

zero-upper_ge : (o : Option ℤ) → option_and_then (upper_at_least (pos 0)) o ≡ None
zero-upper_ge None = refl
zero-upper_ge (Some n) = refl

no_lower : (b : PlainBounds) (a : PlainKeyAtom) (v : ℕ) → coefficient_of a.form v ≡ pos 0 → lower_cut b a v ≡ None
no_lower b a v absent =
    let le : lower_by_le b a v ≡ None = ap (λ (c : ℤ). option_and_then (lower_at_most c) (most_left b a v)) absent
    ∙ zero-lower_le (most_left b a v) in
    let ge : lower_by_ge b a v ≡ None = ap (λ (c : ℤ). option_and_then (lower_at_least c) (least_left b a v)) absent
    ∙ zero-lower_ge (least_left b a v) in
    lower_cut_is b a v ∙ by_op a.op le ge
  where
    by_op : (op : Op) → lower_by_le b a v ≡ None → lower_by_ge b a v ≡ None
        → by_comparison (lower_by_le b a v) (lower_by_ge b a v) op ≡ None
    by_op Le le ge = le
    by_op Ge le ge = ge
    by_op Eq le ge = ap (λ (o : Option ℤ). first_some o (lower_by_ge b a v)) le ∙ ge
    by_op Ne le ge = refl

no_upper : (b : PlainBounds) (a : PlainKeyAtom) (v : ℕ) → coefficient_of a.form v ≡ pos 0 → upper_cut b a v ≡ None
no_upper b a v absent =
    let le : upper_by_le b a v ≡ None = ap (λ (c : ℤ). option_and_then (upper_at_most c) (most_left b a v)) absent
    ∙ zero-upper_le (most_left b a v) in
    let ge : upper_by_ge b a v ≡ None = ap (λ (c : ℤ). option_and_then (upper_at_least c) (least_left b a v)) absent
    ∙ zero-upper_ge (least_left b a v) in
    upper_cut_is b a v ∙ by_op a.op le ge
  where
    by_op : (op : Op) → upper_by_le b a v ≡ None → upper_by_ge b a v ≡ None
        → by_comparison (upper_by_le b a v) (upper_by_ge b a v) op ≡ None
    by_op Le le ge = le
    by_op Ge le ge = ge
    by_op Eq le ge = ap (λ (o : Option ℤ). first_some o (upper_by_ge b a v)) le ∙ ge
    by_op Ne le ge = refl

-- so there is no cut of it
pub cut-absent : (b : PlainBounds) (a : PlainKeyAtom) (v : ℕ) → coefficient_of a.form v ≡ pos 0 → cut b a v ≡ None
cut-absent b a v absent =
    cut_is b a v
    ∙ ap (λ (o : Option ℤ). cond (has_sides b a.form)
    (chosen_cut (kept_if (counts_as_lower (lower_of b v) (upper_of b v)) o) (upper_that_counts b a v)) None)
    (no_lower b a v absent)
    ∙ ap (λ (o : Option ℤ). cond (has_sides b a.form)
    (chosen_cut None (kept_if (counts_as_upper (lower_of b v) (upper_of b v)) o)) None) (no_upper b a v absent)
    ∙ either (has_sides b a.form)
  where
    either : (test : Bool) → cond test (chosen_cut None None) None ≡ None
    either true = refl
    either false = refl
