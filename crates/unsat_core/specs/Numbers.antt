-- The table of the numbers that atoms have among the chosen ones.
use Rattle.std.specs.Prelude.{◌≡◌, ℕ, Bool, List, slice_index_or}
use Rattle.unsat_core.specs.Renumbered.{new_number}

-- each atom has its number in the table, and any number beyond the table has the count of all that are chosen
pub record AreNumbers (choice : List Bool) (numbers : List ℕ) (count : ℕ) : Type 0 where
  pub each : (i : ℕ) → slice_index_or numbers i count ≡ new_number choice i
