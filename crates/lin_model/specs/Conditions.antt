-- Conditions: which variables and atoms make one, when it holds, and sessions of them.
use Rattle.std.specs.Prelude.{◌≢◌, ℕ, ◌<◌, ◌≤◌, List, length, ℤ, All, AllPairs, IfSome, sum_by}
use Rattle.lin_model.specs.Terms.{PlainVar, PlainTerm, VarFits, ExprFits, TermFits}
use Rattle.lin_model.specs.Truth.{AtomHolds, IsAssignment}
use Rattle.lin_model.specs.declared.atom.Atom.{Atom}
use Rattle.lin_model.specs.declared.condition.TheConstants.{MAX_VARS, MAX_ATOMS}
use Rattle.lin_model.specs.declared.session.TheConstants.{MAX_EXECUTORS, MAX_QUERIES}

-- the variables and the atoms of a condition, all of which have to hold
pub record PlainCondition : Type 0 where
  pub vars : List PlainVar
  pub atoms : List Atom

-- a side names only variables below n
abbrev pub NamesBelow : ℕ → List PlainTerm → Type 0
NamesBelow n terms = All (λ term. IfSome term.var (λ var. var < n)) terms

-- both sides of an atom name only variables below n
pub record AtomNamesBelow (n : ℕ) (atom : Atom) : Type 0 where
  pub left : NamesBelow n atom.left
  pub right : NamesBelow n atom.right

-- two variables have different names
abbrev pub Differ : PlainVar → PlainVar → Type 0
Differ a b = a.name ≢ b.name

-- these make a condition: at most 64 variables of distinct names, at most 256 atoms, and no variable that isn't there
pub record Fits (vars : List PlainVar) (atoms : List Atom) : Type 0 where
  pub few_vars : length vars ≤ MAX_VARS
  pub few_atoms : length atoms ≤ MAX_ATOMS
  pub distinct : AllPairs Differ vars
  pub in_range : All (AtomNamesBelow (length vars)) atoms

-- both sides of an atom have 1 to 64 terms, none of which is too large
pub record AtomFits (atom : Atom) : Type 0 where
  pub left : ExprFits atom.left
  pub right : ExprFits atom.right
  pub left_terms : All TermFits atom.left
  pub right_terms : All TermFits atom.right

-- what plain data has to be to be a condition
pub record IsCondition (q : PlainCondition) : Type 0 where
  pub fits : Fits q.vars q.atoms
  pub vars : All VarFits q.vars
  pub atoms : All AtomFits q.atoms

-- the values are an assignment, and every atom as written holds
pub record Holds (q : PlainCondition) (values : List ℤ) : Type 0 where
  pub assignment : IsAssignment q.vars values
  pub atoms : All (λ atom. AtomHolds atom values) q.atoms

-- some assignment makes it hold
abbrev pub IsSatisfiable : PlainCondition → Type 0
IsSatisfiable q = (values : List ℤ) × Holds q values

-- the conditions that each executor asks, at most 64 executors and 100,000 conditions in all
pub record IsSession (executors : List (List PlainCondition)) : Type 0 where
  pub few_executors : length executors ≤ MAX_EXECUTORS
  pub few_queries : sum_by length executors ≤ MAX_QUERIES
