-- Flags for the atoms of a key: which of them are raised.
use Rattle.std.specs.Prelude.{◌≡◌, ℕ, ◌<◌, Bool, false, ◌||◌, List, length, slice_index_or}
use Rattle.lin_model.specs.KeyAtom.{PlainKeyAtom}
use Rattle.refutation.specs.Tree.{PlainTree}
use Rattle.unsat_core.specs.Renumbered.{names}

-- each flag is raised afterwards where it was before, and where its number passes the test
pub record Raises (test : ℕ → Bool) (before after : List Bool) : Type 0 where
  pub one_each : length after ≡ length before
  pub each : (i : ℕ) → i < length before
      → slice_index_or after i false ≡ (slice_index_or before i false || test i)

-- the flags of the atoms that the tree names are raised, and no others
pub record AreNamed (key : List PlainKeyAtom) (tree : PlainTree) (flags : List Bool) : Type 0 where
  pub one_each : length flags ≡ length key
  pub each : (i : ℕ) → i < length key → slice_index_or flags i false ≡ names tree i
