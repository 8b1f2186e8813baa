-- The definitions on small worked values, as the checker computes them.
use Rattle.std.proofs.Common.{◌≡◌, ℕ, zero, suc, ◌<◌, ℤ, pos, negsuc, true, false, Some, None, List, [], ◌∷◌, codes}
use Rattle.std.proofs.Common.{get_or, inr, refl, arith}
use Rattle.std.specs.declared.cmp.Ordering.TheVariants.{Less, Equal}
use Rattle.std.specs.List.{Any}
use Rattle.std.proofs.lemmas.Int.{ints}
use Rattle.lin_model.specs.declared.atom.Atom.{Atom}
use Rattle.lin_model.specs.declared.atom.Cmp.TheVariants.{Lt}
use Rattle.lin_model.specs.declared.form.FormTerm.{FormTerm}
use Rattle.lin_model.specs.declared.op.Op.{Op}
use Rattle.lin_model.specs.declared.op.Op.TheVariants.{Le, Ge, Eq, Ne}
use Rattle.lin_model.specs.Names.{IsName, is_reserved}
use Rattle.lin_model.specs.Terms.{PlainVar, PlainTerm, value_of}
use Rattle.lin_model.specs.Truth.{AtomHolds, InBounds, IsAssignment}
use Rattle.lin_model.specs.Conditions.{Fits}
use Rattle.lin_model.specs.Test.{passes}
use Rattle.lin_model.specs.Form.{form_value, gcd_within, gcd, divisor}
use Rattle.lin_model.specs.Quotients.{floor_div, ceil_div}
use Rattle.lin_model.specs.KeyAtom.{PlainKeyAtom, IsCanonicalForm}
use Rattle.lin_model.specs.AtomOrder.{compare_atoms}
use Rattle.lin_model.specs.Key.{key_width}
use Rattle.lin_model.specs.Bounded.{variable, GivesLower, GivesUpper, IsBounded}

-- ---- names

check_name : is_reserved (codes "x") ≡ false
check_name = refl

check_reserved : is_reserved (codes "mod") ≡ true
check_reserved = refl

check_reserved_is_no_name : ¬ IsName (codes "mod")
check_reserved_is_no_name h = let free = h.free in absurd (cc)

check_digit_first : ¬ IsName (codes "1x")
check_digit_first h = let starts = h.starts in absurd (cc)

-- ---- conditions as they are written

abbrev times : ℤ → ℕ → PlainTerm
times factor var = record { factor = factor; var = Some var }

abbrev number : ℤ → PlainTerm
number factor = record { factor = factor; var = None }

-- `2*v1 - 3` at (5, 7)
check_value : value_of (times (pos 2) 1 ∷ number (negsuc 2) ∷ []) (pos 5 ∷ pos 7 ∷ []) ≡ pos 11
check_value = refl

-- `v0 < v1`
abbrev less : Atom
less = record { left = times (pos 1) 0 ∷ []; cmp = Lt; right = times (pos 1) 1 ∷ [] }

check_holds : AtomHolds less (pos 1 ∷ pos 2 ∷ [])
check_holds = omega (arith, ints)

check_equal_fails : ¬ AtomHolds less (pos 2 ∷ pos 2 ∷ [])
check_equal_fails h = omega (arith, ints, h)

-- a variable from 0 to 3
abbrev up_to_three : List ℕ → PlainVar
up_to_three name = record { name = name; lo = pos 0; hi = pos 3 }

check_assignment : IsAssignment (up_to_three (codes "x") ∷ []) (pos 3 ∷ [])
check_assignment = record { one_each = refl; within = within }
  where
    within : (k : ℕ) (var : PlainVar) → k < 1
        → InBounds (get_or (up_to_three (codes "x") ∷ []) k var) (get_or (pos 3 ∷ []) k (pos 0))
    within zero var lt = record { low = omega (arith, ints); high = omega (arith, ints) }
    within (suc k) var lt = absurd (omega arith)

check_beyond : ¬ IsAssignment (up_to_three (codes "x") ∷ []) (pos 4 ∷ [])
check_beyond h = let high = (h.within 0 (up_to_three (codes "x")) (omega arith)).high in omega (arith, ints, high)

check_one_value_more : ¬ IsAssignment (up_to_three (codes "x") ∷ []) (pos 3 ∷ pos 0 ∷ [])
check_one_value_more h = absurd (omega (arith, h.one_each))

check_same_name : ¬ Fits (up_to_three (codes "x") ∷ up_to_three (codes "x") ∷ []) []
check_same_name h = h.distinct 0 1 (up_to_three (codes "x")) (omega arith) (omega arith) refl

-- `v0 < v1` over one variable names one that isn't there
check_not_declared : ¬ Fits (up_to_three (codes "x") ∷ []) (less ∷ [])
check_not_declared h = let there = (h.in_range 0 less (omega arith)).right 0 (times (pos 1) 1) (omega arith) in
    absurd (omega (arith, there))

-- ---- canonical atoms and keys

abbrev term : ℕ → ℤ → FormTerm
term v coef = record { var = v; coef = coef }

abbrev atom : List FormTerm → Op → ℤ → PlainKeyAtom
atom form op constant = record { form = form; op = op; constant = constant }

-- a test at its constant
check_at_most : passes Le (pos 3) (pos 3) ≡ true
check_at_most = refl

check_not_equal : passes Ne (pos 3) (pos 3) ≡ false
check_not_equal = refl

-- `2*v0 - v1` at (3, 1), and how wide it is
check_form : form_value (term 0 (pos 2) ∷ term 1 (negsuc 0) ∷ []) (pos 3 ∷ pos 1 ∷ []) ≡ pos 5
check_form = refl

check_width : key_width (atom (term 0 (pos 1) ∷ term 3 (negsuc 0) ∷ []) Le (pos 0) ∷ atom (variable 1) Ge (pos 0) ∷ [])
    ≡ 4
check_width = refl

check_no_width : key_width [] ≡ 0
check_no_width = refl

-- `-v0` and `v1 + v0` are no canonical forms
check_negative_first : ¬ IsCanonicalForm (term 0 (negsuc 0) ∷ [])
check_negative_first h = omega (arith, ints, h.begins_positive (term 0 (pos 0)) (omega arith))

check_turned_round : ¬ IsCanonicalForm (term 1 (pos 1) ∷ term 0 (pos 1) ∷ [])
check_turned_round h = absurd (omega (arith, h.variables.ascend 0 (term 0 (pos 0)) (omega arith)))

-- `2*v0` neither: 2 divides it
check_divided : ¬ IsCanonicalForm (term 0 (pos 2) ∷ [])
unfolding divisor gcd gcd_within
check_divided h = absurd (omega (arith, h.gcd_is_one))

-- the divisor of `12*v0 - 18*v1`, of no terms, and of terms without a coefficient
check_divisor : divisor (term 0 (pos 12) ∷ term 1 (negsuc 17) ∷ []) ≡ 6
unfolding divisor gcd gcd_within
check_divisor = refl

check_no_divisor : divisor [] ≡ 0
unfolding divisor
check_no_divisor = refl

check_divisor_of_zero : divisor (term 0 (pos 0) ∷ []) ≡ 0
unfolding divisor gcd gcd_within
check_divisor_of_zero = refl

-- ---- the order of atoms

-- by the form first: a proper prefix, then the lesser variable, then the lesser coefficient comes before
check_prefix : compare_atoms (atom (variable 0) Ne (pos 9)) (atom (term 0 (pos 1) ∷ term 1 (pos 1) ∷ []) Le (pos 0))
    ≡ Less
check_prefix = refl

check_variable : compare_atoms (atom (term 0 (pos 1) ∷ term 1 (pos 9) ∷ []) Le (pos 0))
    (atom (term 0 (pos 1) ∷ term 2 (negsuc 8) ∷ []) Le (pos 0)) ≡ Less
check_variable = refl

check_coefficient : compare_atoms (atom (term 0 (pos 1) ∷ term 1 (negsuc 8) ∷ []) Le (pos 0))
    (atom (term 0 (pos 1) ∷ term 1 (pos 9) ∷ []) Le (pos 0)) ≡ Less
check_coefficient = refl

-- then by the op, and last by the constant
check_op : compare_atoms (atom (variable 0) Le (pos 9)) (atom (variable 0) Ge (pos 0)) ≡ Less
check_op = refl

check_constant : compare_atoms (atom (variable 0) Le (negsuc 0)) (atom (variable 0) Le (pos 0)) ≡ Less
check_constant = refl

check_same_atom : compare_atoms (atom (variable 0) Eq (pos 3)) (atom (variable 0) Eq (pos 3)) ≡ Equal
check_same_atom = refl

-- ---- quotients

-- a half of 7, and of -7
check_floor : floor_div (pos 7) 2 ≡ pos 3
check_floor = refl

check_floor_below : floor_div (negsuc 6) 2 ≡ negsuc 3
check_floor_below = refl

check_ceil : ceil_div (pos 7) 2 ≡ pos 4
check_ceil = refl

check_ceil_below : ceil_div (negsuc 6) 2 ≡ negsuc 2
check_ceil_below = refl

-- ---- keys that bound their variables

-- `v0 = 3` holds v0 from both sides; `v0 <= 9` with `v0 != 0` leaves it unbounded below
check_bounded : IsBounded (atom (variable 0) Eq (pos 3) ∷ [])
check_bounded = record { lower = lower; upper = upper }
  where
    lower : (v : ℕ) → v < 1 → Any (GivesLower v) (atom (variable 0) Eq (pos 3) ∷ [])
    lower zero lt = (
      0,
      atom (variable 0) Eq (pos 3),
      omega arith,
      refl,
      record { form = refl; op = inr refl; constant = omega (arith, ints) },
    )
    lower (suc v) lt = absurd (omega arith)

    upper : (v : ℕ) → v < 1 → Any (GivesUpper v) (atom (variable 0) Eq (pos 3) ∷ [])
    upper zero lt = (
      0,
      atom (variable 0) Eq (pos 3),
      omega arith,
      refl,
      record { form = refl; op = inr refl; constant = omega (arith, ints) },
    )
    upper (suc v) lt = absurd (omega arith)
