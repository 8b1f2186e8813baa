-- Runs of places whose hashes have one remainder by 64.
use Rattle.std.specs.Prelude.{◌≡◌, ℕ, ◌+◌, ◌%◌, ◌<◌, ◌≤◌, min, List, length, set, slice_index_or}
use Rattle.lin_model.specs.KeyAtom.{PlainKeyAtom}
use Rattle.key_tree.specs.declared.runs.Run.{Run}
use Rattle.key_tree.specs.declared.runs.Runs.{Runs}
use Rattle.key_tree.specs.Prints.{hash_of}

-- where the run of a hash begins
abbrev pub run_first : Runs → ℕ → ℕ
run_first runs hash = slice_index_or runs.firsts (hash % 64) 0

-- and where it ends
abbrev pub run_end : Runs → ℕ → ℕ
run_end runs hash = slice_index_or runs.ends (hash % 64) 0

-- each of the first so many places is in the run of its hash, and no run has a later place
pub record AreRuns (hashes : List ℕ) (runs : Runs) (count : ℕ) : Type 0 where
  pub first : (place d : ℕ) → place < count → run_first runs (slice_index_or hashes place d) ≤ place
  pub end : (place d : ℕ) → place < count → place < run_end runs (slice_index_or hashes place d)
  pub within : (hash : ℕ) → run_end runs hash ≤ count

-- the runs with a place more, behind all others, which has this hash
pub record IsWithRun (old : Runs) (place hash : ℕ) (new : Runs) : Type 0 where
  pub firsts : new.firsts ≡ set old.firsts (hash % 64) (min (run_first old hash) place)
  pub ends : new.ends ≡ set old.ends (hash % 64) (place + 1)
  pub count_firsts : length old.firsts ≡ 64
  pub count_ends : length old.ends ≡ 64

-- all atoms whose forms have this hash stand in the run, and it has no place behind the key
pub record IsRunOf (key : List PlainKeyAtom) (hash : ℕ) (run : Run) : Type 0 where
  pub first : (place : ℕ) (d : PlainKeyAtom) → place < length key → hash_of (slice_index_or key place d).form ≡ hash
      → run.first ≤ place
  pub end : (place : ℕ) (d : PlainKeyAtom) → place < length key → hash_of (slice_index_or key place d).form ≡ hash
      → place < run.end
  pub order : run.first ≤ run.end
  pub within : run.end ≤ length key
