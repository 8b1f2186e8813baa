-- A file of the system as a disk.
use Rattle.std.specs.Prelude.{ℕ, List, Option}

-- the name of the file that was chosen last, none at first, and how often it has failed
pub record FileDiskState : Type 0 where
  pub name : Option (List ℕ)
  pub faults : ℕ
