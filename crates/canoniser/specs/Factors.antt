-- Conditions that differ by positive factors of their atoms' sides.
use Rattle.std.specs.Prelude.{◌≡◌, ℕ, ◌<◌, pos, ◌*ℤ◌, List, map}
use Rattle.std.specs.List.{AllZip}
use Rattle.lin_model.specs.Terms.{PlainTerm}
use Rattle.lin_model.specs.Conditions.{PlainCondition}
use Rattle.lin_model.specs.declared.atom.Atom.{Atom}

-- every term of a side times m
abbrev pub times_side : ℕ → List PlainTerm → List PlainTerm
times_side m terms = map (λ t. record { factor = pos m *ℤ t.factor; var = t.var }) terms

-- both sides of an atom times m
abbrev pub times : ℕ → Atom → Atom
times m atom = record { left = times_side m atom.left; cmp = atom.cmp; right = times_side m atom.right }

-- both sides of the atom times a positive number
pub record IsMultiple (atom other : Atom) : Type 0 where
  pub factor : ℕ
  pub positive : 0 < factor
  pub product : other ≡ times factor atom

-- the same condition, but for positive factors of its atoms' sides
pub record IsScaled (c d : PlainCondition) : Type 0 where
  pub vars : d.vars ≡ c.vars
  pub atoms : AllZip IsMultiple c.atoms d.atoms
