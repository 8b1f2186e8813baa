-- An atom with its variables gathered on the left and its constants on the right.
use Rattle.std.specs.Prelude.{ℕ, ℤ, pos, ◌+ℤ◌, ◌-ℤ◌, Bool, false, if◌then◌else◌, ◌==◌, Option, Some, None, is_some}
use Rattle.std.specs.Prelude.{List, [], ◌∷◌}
use Rattle.lin_model.specs.Terms.{PlainTerm}
use Rattle.lin_model.specs.declared.atom.Atom.{Atom}
use Rattle.lin_model.specs.declared.atom.Cmp.{Cmp}
use Rattle.lin_model.specs.declared.atom.Cmp.TheVariants.{Le, Lt, Ge, Gt, Eq, Ne}
use Rattle.lin_model.specs.declared.op.Op.{Op}
use Rattle.lin_model.specs.declared.op.Op.TheVariants.{Le as AtMost, Ge as AtLeast, Eq as Equals, Ne as Differs}

-- a term on this is a term on the variable v
abbrev pub is_on : Option ℕ → ℕ → Bool
is_on None v = false
is_on (Some w) v = w == v

-- what the terms of a side on the variable v come to
abbrev pub factor_on : ℕ → List PlainTerm → ℤ
factor_on v [] = pos 0
factor_on v (t ∷ ts) = (if is_on t.var v then t.factor else pos 0) +ℤ factor_on v ts

-- what the constants of a side come to
abbrev pub constants_of : List PlainTerm → ℤ
constants_of [] = pos 0
constants_of (t ∷ ts) = (if is_some t.var then pos 0 else t.factor) +ℤ constants_of ts

-- the coefficient of the variable v, and the constant, once all variables stand on the left and all constants on the
-- right
abbrev pub coefficient : Atom → ℕ → ℤ
coefficient atom v = factor_on v atom.left -ℤ factor_on v atom.right

abbrev pub constant : Atom → ℤ
constant atom = constants_of atom.right -ℤ constants_of atom.left

-- `t < c` is `t <= c - 1`, and `t > c` is `t >= c + 1`
abbrev pub op_of : Cmp → Op
op_of Le = AtMost
op_of Lt = AtMost
op_of Ge = AtLeast
op_of Gt = AtLeast
op_of Eq = Equals
op_of Ne = Differs

abbrev pub loose : Cmp → ℤ → ℤ
loose Le c = c
loose Lt c = c -ℤ pos 1
loose Ge c = c
loose Gt c = c +ℤ pos 1
loose Eq c = c
loose Ne c = c
