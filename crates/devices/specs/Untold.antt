-- A disk that tells nothing of its content and its images.
use Rattle.std.specs.Prelude.{ℕ, List, Option, None, false, ⊤}
use Rattle.outside.specs.States.{DiskState}

-- what is seen of it with this name after so many faults
abbrev pub untold : Option (List ℕ) → ℕ → DiskState
untold name faults = record {
  name = name;
  content = None;
  tells_images = false;
  keeps_rules = false;
  may_leave = λ _. ⊤;
  moment = 0;
  left_since = λ _ _. ⊤;
  faults = faults;
}
