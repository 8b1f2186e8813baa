-- Points: one whole number for each variable of a key.
use Rattle.std.specs.Prelude.{◌≤◌, ℤ, List, length, unsigned_abs}
use Rattle.std.specs.List.{All}
use Rattle.lin_model.specs.declared.point.TheConstants.{MAX_VALUES, MAX_VALUE, MAX_SIDE}

-- the limits of a point
pub record IsPoint (values : List ℤ) : Type 0 where
  pub few : length values ≤ MAX_VALUES
  pub small : All (λ n. unsigned_abs n ≤ MAX_VALUE) values

-- the limits of the sides of boxes, one past those of a point
abbrev pub AreSides : List ℤ → Type 0
AreSides values = All (λ n. unsigned_abs n ≤ MAX_SIDE) values
