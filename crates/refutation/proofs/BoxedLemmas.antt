-- The sides of a key's bounds are at most 2^32 in size.
use Rattle.std.proofs.Common.{◌≡◌, ℕ, ◌^◌, ◌≤◌, ℤ, neg_ℤ, Bool, true, false, cond, Option, Some, None, IfSome, List, []}
use Rattle.std.proofs.Common.{◌∷◌, unsigned_abs, arith, refl, sym, subst, int_lt}
use Rattle.std.specs.Int.{int_min, int_max}
use Rattle.std.proofs.lemmas.Int.{ints, clamps}
use Rattle.lin_model.specs.declared.op.Op.{Op}
use Rattle.lin_model.specs.declared.op.Op.TheVariants.{Le, Ge, Eq, Ne}
use Rattle.lin_model.specs.KeyAtom.{PlainKeyAtom}
use Rattle.refutation.specs.Bounds.{PlainBounds, side_limit, lower_side, upper_side, lower_by, upper_by, is_variable}
use Rattle.refutation.specs.Bounds.{tighter_lower, tighter_upper, lower_bound, upper_bound, key_bounds}
use Rattle.refutation.specs.Boxed.{HasShortSides}
use Rattle.refutation.proofs.Points.{over_variables, if_some}

-- a side of at most 2^32 in size
abbrev Short : Option ℤ → Type 0
Short o = IfSome o (λ n. unsigned_abs n ≤ 2 ^ 32)

unless : (b : Bool) (m : ℤ) → (b ≡ false → unsigned_abs m ≤ 2 ^ 32) → Short (cond b None (Some m))
unless true m h = tt
unless false m h = h refl

lower_side-short : (c : ℤ) → Short (lower_side c)
lower_side-short c = unless (int_lt c (neg_ℤ side_limit)) (int_min c side_limit) (λ h. omega (arith, ints, clamps))

upper_side-short : (c : ℤ) → Short (upper_side c)
upper_side-short c = unless (int_lt side_limit c) (int_max c (neg_ℤ side_limit)) (λ h. omega (arith, ints, clamps))

lower_by-short : (op : Op) (c : ℤ) → Short (lower_by op c)
lower_by-short Le c = tt
lower_by-short Ge c = lower_side-short c
lower_by-short Eq c = lower_side-short c
lower_by-short Ne c = tt

upper_by-short : (op : Op) (c : ℤ) → Short (upper_by op c)
upper_by-short Le c = upper_side-short c
upper_by-short Ge c = tt
upper_by-short Eq c = upper_side-short c
upper_by-short Ne c = tt

tighter_lower-short : (o q : Option ℤ) → Short o → Short q → Short (tighter_lower o q)
tighter_lower-short None q f g = g
tighter_lower-short (Some m) None f g = f
tighter_lower-short (Some m) (Some n) f g = omega (arith, ints, clamps)

tighter_upper-short : (o q : Option ℤ) → Short o → Short q → Short (tighter_upper o q)
tighter_upper-short None q f g = g
tighter_upper-short (Some m) None f g = f
tighter_upper-short (Some m) (Some n) f g = omega (arith, ints, clamps)

lower_bound-short : (atoms : List PlainKeyAtom) (v : ℕ) → Short (lower_bound atoms v)
lower_bound-short [] v = tt
lower_bound-short (a ∷ atoms) v =
    tighter_lower-short (cond (is_variable a.form v) (lower_by a.op a.constant) None) (lower_bound atoms v)
    (if_some (is_variable a.form v) (lower_by a.op a.constant) (λ n. unsigned_abs n ≤ 2 ^ 32)
    (λ _. lower_by-short a.op a.constant)) (lower_bound-short atoms v)

upper_bound-short : (atoms : List PlainKeyAtom) (v : ℕ) → Short (upper_bound atoms v)
upper_bound-short [] v = tt
upper_bound-short (a ∷ atoms) v =
    tighter_upper-short (cond (is_variable a.form v) (upper_by a.op a.constant) None) (upper_bound atoms v)
    (if_some (is_variable a.form v) (upper_by a.op a.constant) (λ n. unsigned_abs n ≤ 2 ^ 32)
    (λ _. upper_by-short a.op a.constant)) (upper_bound-short atoms v)

pub key_bounds-short : (key : List PlainKeyAtom) → HasShortSides (key_bounds key)
unfolding key_bounds
key_bounds-short key = record {
  lower = λ v. over_variables (lower_bound key) v (λ o. IfSome o (λ n. unsigned_abs n ≤ 2 ^ 32))
      (lower_bound-short key v) tt;
  upper = λ v. over_variables (upper_bound key) v (λ o. IfSome o (λ n. unsigned_abs n ≤ 2 ^ 32))
      (upper_bound-short key v) tt;
}

pub bounds-short : (b : PlainBounds) (key : List PlainKeyAtom) → b ≡ key_bounds key → HasShortSides b
bounds-short b key is = subst HasShortSides (sym is) (key_bounds-short key)
