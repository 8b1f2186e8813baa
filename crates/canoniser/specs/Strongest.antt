-- The key of canonical atoms and bounds.
use Rattle.std.specs.Prelude.{◌⊎◌, ◌↔◌, ℕ, ◌<◌, IsSomeAnd, List, length, slice_index, Contains, Any}
use Rattle.std.specs.List.{slice_get}
use Rattle.lin_model.specs.Terms.{VarFits}
use Rattle.lin_model.specs.Conditions.{PlainCondition}
use Rattle.lin_model.specs.KeyAtom.{PlainKeyAtom}
use Rattle.lin_model.specs.Key.{Ascends}
use Rattle.atom_implies.specs.Implies.{Implies}
use Rattle.canoniser.specs.Keys.{IsBound, IsStrongest}

-- it is one of the canonical atoms, or a bound of one of the variables
abbrev pub IsOneOf : PlainCondition → List ℕ → List PlainKeyAtom → PlainKeyAtom → Type 0
IsOneOf c order canonical a = Contains canonical a ⊎ IsBound c order a

-- the variables are within their limits
abbrev pub VarsFit : PlainCondition → List ℕ → Type 0
VarsFit c order = (v : ℕ) → v < length order → IsSomeAnd (slice_get c.vars (slice_index order v)) VarFits

-- the sorted list of the strongest of these atoms and bounds, of which each is implied by one that stands in it
pub record IsKeyWithBounds (c : PlainCondition) (order : List ℕ) (canonical key : List PlainKeyAtom) : Type 0 where
  pub ascends : Ascends key
  pub just : (a : PlainKeyAtom) → Contains key a ↔ IsStrongest (IsOneOf c order canonical) a
  pub covered : (a : PlainKeyAtom) → IsOneOf c order canonical a → Any (λ b. Implies b a) key
  pub vars_fit : VarsFit c order
