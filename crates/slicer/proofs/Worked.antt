-- Small worked values of the definitions.
use Rattle.std.proofs.Common.{◌≡◌, ℕ, List, [], ◌∷◌, Some, None, pos, neg_ℤ, refl, arith}
use Rattle.lin_model.specs.Terms.{PlainTerm}
use Rattle.lin_model.specs.Conditions.{PlainCondition}
use Rattle.lin_model.specs.declared.atom.Atom.{Atom}
use Rattle.lin_model.specs.declared.atom.Cmp.TheVariants.{Le}
use Rattle.slicer.specs.Names.{atom_vars, NamesAt, NamesNothingAt}
use Rattle.slicer.specs.Linked.{Linked, alone, longer}

-- n times the variable v
abbrev times : ℕ → ℕ → PlainTerm
times n v = record { factor = pos n; var = Some v }

abbrev minus : ℕ → PlainTerm
minus v = record { factor = neg_ℤ (pos 1); var = Some v }

abbrev number : ℕ → PlainTerm
number n = record { factor = pos n; var = None }

abbrev atom_of : List PlainTerm → List PlainTerm → Atom
atom_of left right = record { left = left; cmp = Le; right = right }

-- `v2 - v2 <= 0*v5 + 3` names v2 twice, and v5
check_cancelled : atom_vars (atom_of (times 1 2 ∷ minus 2 ∷ []) (times 0 5 ∷ number 3 ∷ [])) ≡ 2 ∷ 2 ∷ 5 ∷ []
check_cancelled = refl

-- `1 <= 2` names no variable
check_none : NamesNothingAt (atom_of (number 1 ∷ []) (number 2 ∷ []) ∷ []) 0
check_none = refl

-- `v1 <= v2` and `v0 <= v1`
abbrev backward : PlainCondition
backward = record {
  vars = [];
  atoms =
      atom_of (times 1 1 ∷ []) (times 1 2 ∷ []) ∷ atom_of (times 1 0 ∷ []) (times 1 1 ∷ []) ∷ [];
}

-- the second atom joins v0 to v1, and the first v1 to v2
check_chain : Linked backward 0 2
check_chain =
    longer (longer alone (
      1,
      atom_of (times 1 0 ∷ []) (times 1 1 ∷ []),
      omega arith,
      refl,
      ((0, omega arith, refl), (1, omega arith, refl)),
    ))
    (0, atom_of (times 1 1 ∷ []) (times 1 2 ∷ []), omega arith, refl, ((0, omega arith, refl), (1, omega arith, refl)))

-- the first atom names v2
check_names : NamesAt backward.atoms 0 2
check_names = (1, omega arith, refl)

-- there is no third atom
check_past : ¬ NamesAt backward.atoms 2 2
check_past none = none
