-- Sets of variables below 64, one bit each, and what spreads through them.
use Rattle.std.specs.Prelude.{◌≡◌, ◌↔◌, ℕ, ◌<◌, List, length, slice_index_or}
use Rattle.std.specs.Int.{bit_at}
use Rattle.lin_model.specs.declared.atom.Atom.{Atom}
use Rattle.slicer.specs.declared.var_set.VarSet.{VarSet}
use Rattle.slicer.specs.Names.{Names}
use Rattle.slicer.specs.Linked.{Chain}

-- the variable is in the set
abbrev pub Has : VarSet → ℕ → Type 0
Has set var = bit_at set.bits var ≡ 1

-- no variable is in the set
abbrev pub IsVoid : VarSet → Type 0
IsVoid set = (v : ℕ) → ¬ Has set v

-- some variable is in both sets
abbrev pub Meet : VarSet → VarSet → Type 0
Meet a b = (v : ℕ) × Has a v × Has b v

-- each variable of the first set is in the second
abbrev pub Includes : VarSet → VarSet → Type 0
Includes a b = (v : ℕ) → Has a v → Has b v

-- the set has just the variables that the atom names
abbrev pub IsSetOf : Atom → VarSet → Type 0
IsSetOf atom set = (v : ℕ) → Has set v ↔ Names atom v

-- there is a set for each atom, of the variables that it names
pub record AreSetsOf (atoms : List Atom) (sets : List VarSet) : Type 0 where
  pub one_each : length sets ≡ length atoms
  pub same : (k : ℕ) (atom : Atom) (set : VarSet) → k < length sets
      → IsSetOf (slice_index_or atoms k atom) (slice_index_or sets k set)

-- a chain through the sets joins some variable of the first set to this one
abbrev pub IsReached : List VarSet → VarSet → ℕ → Type 0
IsReached sets first v = (u : ℕ) × Has first u × Chain Has sets u v
