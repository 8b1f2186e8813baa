-- Canonical forms by hand.
use Rattle.std.proofs.Common.{◌≡◌, ℕ, ℤ, pos, negsuc, Some, None, List, [], ◌∷◌, refl}
use Rattle.lin_model.specs.Terms.{PlainTerm}
use Rattle.lin_model.specs.declared.atom.Atom.{Atom}
use Rattle.lin_model.specs.declared.atom.Cmp.{Cmp}
use Rattle.lin_model.specs.declared.atom.Cmp.TheVariants.{Le, Lt, Ne}
use Rattle.lin_model.specs.declared.op.Op.TheVariants.{Le as AtMost, Ge as AtLeast, Eq as Equals, Ne as Differs}
use Rattle.lin_model.specs.Form.{gcd_within, gcd, divisor}
use Rattle.canoniser.specs.Numbering.{first_ones}
use Rattle.canoniser.specs.declared.atom_form.AtomForm.TheVariants.{True, False, KeyAtom}
use Rattle.canoniser.specs.Forms.{gathered, oriented, reduced, alone, canonical_form}

-- a factor on a variable, and a constant
abbrev on : ℤ → ℕ → PlainTerm
on factor var = record { factor = factor; var = Some var }

abbrev number : ℤ → PlainTerm
number factor = record { factor = factor; var = None }

abbrev atom : List PlainTerm → Cmp → List PlainTerm → Atom
atom left cmp right = record { left = left; cmp = cmp; right = right }

-- `2*x <= 7` is `v0 <= 3`
half : reduced 2 (record { var = 0; coef = pos 2 } ∷ []) AtMost (pos 7) ≡ KeyAtom
    (record { form = record { var = 0; coef = pos 1 } ∷ []; op = AtMost; constant = pos 3 })
half = refl

-- `2*x >= 7` is `v0 >= 4`, and `2*x >= -7` is `v0 >= -3`
half_up : reduced 2 (record { var = 0; coef = pos 2 } ∷ []) AtLeast (pos 7) ≡ KeyAtom
    (record { form = record { var = 0; coef = pos 1 } ∷ []; op = AtLeast; constant = pos 4 })
half_up = refl

half_up_below : reduced 2 (record { var = 0; coef = pos 2 } ∷ []) AtLeast (negsuc 6) ≡ KeyAtom
    (record { form = record { var = 0; coef = pos 1 } ∷ []; op = AtLeast; constant = negsuc 2 })
half_up_below = refl

-- `2*x - 2*y = 1` has no solution, and `2*x - 2*y != 1` always holds
no_half : reduced 2 (record { var = 0; coef = pos 2 } ∷ record { var = 1; coef = negsuc 1 } ∷ []) Equals (pos 1) ≡ False
no_half = refl

every_half : reduced 2 (record { var = 0; coef = pos 2 } ∷ record { var = 1; coef = negsuc 1 } ∷ []) Differs
    (pos 1) ≡ True
every_half = refl

-- `3 - y < 2*x + x - 4` over x, y is `3*x + y > 7`, so `3*v0 + v1 >= 8`
strict : gathered (5 ∷ 2 ∷ [])
    (atom (number (pos 3) ∷ on (negsuc 0) 2 ∷ []) Lt (on (pos 2) 5 ∷ on (pos 1) 5 ∷ number (negsuc 3) ∷ []))
    ≡ record {
      form = record { var = 0; coef = negsuc 2 } ∷ record { var = 1; coef = negsuc 0 } ∷ [];
      op =
          AtMost;
      constant = negsuc 7;
    }
strict = refl

strict_turned : oriented
    (gathered (5 ∷ 2 ∷ []) (atom (number (pos 3) ∷ on (negsuc 0) 2 ∷ []) Lt
    (on (pos 2) 5 ∷ on (pos 1) 5 ∷ number (negsuc 3) ∷ [])))
    ≡ record {
      form = record { var = 0; coef = pos 3 } ∷ record { var = 1; coef = pos 1 } ∷ [];
      op = AtLeast;
      constant =
          pos 8;
    }
strict_turned = refl

-- `x - x != 0` is false by itself
cancelled : gathered (0 ∷ []) (atom (on (pos 1) 0 ∷ on (negsuc 0) 0 ∷ []) Ne (number (pos 0) ∷ [])) ≡ record {
  form =
      [];
  op = Differs;
  constant = pos 0;
}
cancelled = refl

cancelled_false : alone Differs (pos 0) ≡ False
cancelled_false = refl

-- `2*y <= 7` over y, all at once
whole : canonical_form (5 ∷ []) (atom (on (pos 2) 5 ∷ []) Le (number (pos 7) ∷ []))
    ≡ KeyAtom (record { form = record { var = 0; coef = pos 1 } ∷ []; op = AtMost; constant = pos 3 })
unfolding canonical_form divisor gcd gcd_within
whole = refl

-- each variable once, where it stands first
firsts : first_ones (7 ∷ 3 ∷ 7 ∷ 1 ∷ 3 ∷ []) ≡ 7 ∷ 3 ∷ 1 ∷ []
firsts = refl
