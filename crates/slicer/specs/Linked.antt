-- When two variables are linked.
use Rattle.std.specs.Prelude.{ℕ, List, Any}
use Rattle.lin_model.specs.Conditions.{PlainCondition}
use Rattle.slicer.specs.Names.{Names}

-- steps from `first` on, each between two numbers that the same element of the list names
pub data Chain {X : Type 0} (Names : X → ℕ → Type 0) (xs : List X) (first : ℕ) : ℕ → Type 0 where
  alone : Chain Names xs first first
  longer : {last next : ℕ} → Chain Names xs first last → Any (λ x. Names x last × Names x next) xs
      → Chain Names xs first next

-- steps over atoms lead from the one variable to the other, or no step is needed since they are the same
abbrev pub Linked : PlainCondition → ℕ → ℕ → Type 0
Linked c u v = Chain Names c.atoms u v
