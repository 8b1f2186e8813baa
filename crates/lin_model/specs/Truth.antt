-- When a comparison holds, and what an assignment is.
use Rattle.std.specs.Prelude.{◌≡◌, ◌≢◌, ℕ, ◌<◌, List, length, slice_index_or, ℤ, ◌≤ℤ◌, ◌<ℤ◌}
use Rattle.lin_model.specs.Terms.{PlainVar, value_at, value_of}
use Rattle.lin_model.specs.declared.atom.Atom.{Atom}
use Rattle.lin_model.specs.declared.atom.Cmp.{Cmp}
use Rattle.lin_model.specs.declared.atom.Cmp.TheVariants.{Le, Lt, Ge, Gt, Eq, Ne}

-- two numbers compare as the sign says
abbrev pub Compares : Cmp → ℤ → ℤ → Type 0
Compares Le x y = x ≤ℤ y
Compares Lt x y = x <ℤ y
Compares Ge x y = y ≤ℤ x
Compares Gt x y = y <ℤ x
Compares Eq x y = x ≡ y
Compares Ne x y = x ≢ y

-- the values of the two sides compare as the atom says
abbrev pub AtomHolds : Atom → List ℤ → Type 0
AtomHolds atom values = Compares atom.cmp (value_of atom.left values) (value_of atom.right values)

-- a value is within the bounds of its variable, both included
pub record InBounds (var : PlainVar) (value : ℤ) : Type 0 where
  pub low : var.lo ≤ℤ value
  pub high : value ≤ℤ var.hi

-- one value for each variable, each within its bounds
pub record IsAssignment (vars : List PlainVar) (values : List ℤ) : Type 0 where
  pub one_each : length values ≡ length vars
  pub within : (k : ℕ) (var : PlainVar) → k < length vars → InBounds (slice_index_or vars k var) (value_at values k)
