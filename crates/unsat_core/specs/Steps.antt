-- What stands of a choice while atoms are left out of it, one after another.
use Rattle.std.specs.Prelude.{◌≡◌, ℕ, ◌<◌, Bool, false, ◌||◌, IsTrue, IsSomeAnd, List, length, slice_get, slice_index_or}
use Rattle.std.specs.Bool.{MatchBool}
use Rattle.std.specs.List.{count_by}
use Rattle.lin_model.specs.KeyAtom.{PlainKeyAtom}
use Rattle.refutation.specs.Reading.{Refutes}
use Rattle.refutation.specs.Tree.{PlainTree}
use Rattle.unsat_core.specs.Cores.{HasNamed, IsChosen, IsNeeded, RefutesChosen, is_bound, without}
use Rattle.unsat_core.specs.Named.{AreNamed}
use Rattle.unsat_core.specs.Renumbered.{names}

-- a key with a tree
pub record PlainRefuted : Type 0 where
  pub key : List PlainKeyAtom
  pub tree : PlainTree

-- the tree refutes the key, and the flags say which atoms it names
pub record IsRefutedWithNames (r : PlainRefuted) (flags : List Bool) : Type 0 where
  pub refutes : Refutes r.key r.tree.nodes r.tree.terms
  pub named : AreNamed r.key r.tree flags

-- how many atoms are chosen
abbrev pub chosen_count : List Bool → ℕ
chosen_count choice = count_by (λ c. c) choice

-- just the atoms whose flags are raised and those that may give a bound are chosen
pub record AddsBounds (key : List PlainKeyAtom) (flags choice : List Bool) : Type 0 where
  pub one_each : length choice ≡ length key
  pub each : (i : ℕ) (d : PlainKeyAtom) → i < length key
      → slice_index_or choice i false ≡ (slice_index_or flags i false || is_bound (slice_index_or key i d))

-- a choice that will do: the tree refutes it, and beside the atoms that the tree names it has atoms that may give a
-- bound alone
pub record Suffices (r : PlainRefuted) (choice : List Bool) : Type 0 where
  pub one_each : length choice ≡ length r.key
  pub has_named : HasNamed r.key r.tree choice
  pub refutes : RefutesChosen r.key r.tree choice
  pub others_bound : (i : ℕ) → IsChosen choice i → names r.tree i ≡ false
      → IsSomeAnd (slice_get r.key i) (λ a. IsTrue (is_bound a))

-- ---- one atom

-- the atom was chosen and is left out, and the others will do
pub record IsLeftOut (r : PlainRefuted) (before : List Bool) (i : ℕ) (after : List Bool) : Type 0 where
  pub was_chosen : IsChosen before i
  pub without_it : after ≡ without before i
  pub suffices : Suffices r after

-- nothing is left out: the atom isn't chosen, or the tree needs it
pub record Stays (r : PlainRefuted) (before : List Bool) (i : ℕ) (after : List Bool) : Type 0 where
  pub same : after ≡ before
  pub needed : IsChosen before i → IsNeeded r.key r.tree before i

-- an atom was tried, and left out or not
abbrev pub IsTried : PlainRefuted → List Bool → ℕ → List Bool → Bool → Type 0
IsTried r before i after left_out = MatchBool left_out (IsLeftOut r before i after) (Stays r before i after)

-- ---- all atoms in a row

-- fewer are chosen, and they will do
pub record Shrinks (r : PlainRefuted) (before after : List Bool) : Type 0 where
  pub suffices : Suffices r after
  pub fewer : chosen_count after < chosen_count before

-- nothing is left out: the tree needs each chosen one of the first n atoms
pub record AllStay (r : PlainRefuted) (before : List Bool) (n : ℕ) (after : List Bool) : Type 0 where
  pub same : after ≡ before
  pub needed : (i : ℕ) → i < n → IsChosen before i → IsNeeded r.key r.tree before i

-- the first n atoms were tried, and some left out or none
abbrev pub AreTried : PlainRefuted → List Bool → ℕ → List Bool → Bool → Type 0
AreTried r before n after some = MatchBool some (Shrinks r before after) (AllStay r before n after)
