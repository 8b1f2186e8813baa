-- Variables and terms as plain data, what a side is worth, and the limits of numbers.
use Rattle.std.specs.Prelude.{ℕ, ◌≤◌, List, [], ◌∷◌, length, ℤ, pos, neg_ℤ, ◌+ℤ◌, ◌*ℤ◌, ◌≤ℤ◌, unsigned_abs, Option}
use Rattle.std.specs.Prelude.{Some, None}
use Rattle.lin_model.specs.declared.term.TheConstants.{MAX_FACTOR, MAX_CONSTANT, MAX_TERMS}
use Rattle.lin_model.specs.declared.var.TheConstants.{MAX_BOUND}
use Rattle.lin_model.specs.Names.{IsName}
pub use Rattle.lin_model.specs.Form.{value_at}

-- a variable with its bounds, both included
pub record PlainVar : Type 0 where
  pub name : List ℕ
  pub lo : ℤ
  pub hi : ℤ

-- a factor on a variable of this number, or a constant
pub record PlainTerm : Type 0 where
  pub factor : ℤ
  pub var : Option ℕ

-- what a variable counts for in a term, where a constant counts for 1
abbrev pub weight : Option ℕ → List ℤ → ℤ
weight None values = pos 1
weight (Some var) values = value_at values var

-- a constant, or the factor times the value of the variable
abbrev pub term_value : PlainTerm → List ℤ → ℤ
term_value term values = term.factor *ℤ weight term.var values

-- the value of a side: the plain sum of its terms
abbrev pub value_of : List PlainTerm → List ℤ → ℤ
value_of [] values = pos 0
value_of (term ∷ terms) values = term_value term values +ℤ value_of terms values

-- the greatest size of a constant, and of a factor
abbrev pub limit_of : Option ℕ → ℕ
limit_of None = MAX_CONSTANT
limit_of (Some var) = MAX_FACTOR

-- no factor and no constant is larger than that
abbrev pub TermFits : PlainTerm → Type 0
TermFits term = unsigned_abs term.factor ≤ limit_of term.var

-- bounds in order, of at most 2^31 in size, and a name
pub record VarFits (var : PlainVar) : Type 0 where
  pub name : IsName var.name
  pub low : neg_ℤ (pos MAX_BOUND) ≤ℤ var.lo
  pub order : var.lo ≤ℤ var.hi
  pub high : var.hi ≤ℤ pos MAX_BOUND

-- a side has 1 to 64 terms
pub record ExprFits (terms : List PlainTerm) : Type 0 where
  pub some : 1 ≤ length terms
  pub few : length terms ≤ MAX_TERMS
