-- Atoms that only a division keeps from being canonical.
use Rattle.std.specs.Prelude.{◌^◌, ◌<◌, ◌≤◌, length, unsigned_abs}
use Rattle.lin_model.specs.KeyAtom.{AscendsBelow64, HasSmallCoefficients, BeginsPositive, PlainKeyAtom}

-- at most 64 terms by ascending variables, with small coefficients that aren't 0, and a small constant
pub record IsGathered (a : PlainKeyAtom) : Type 0 where
  pub few_terms : length a.form ≤ 64
  pub variables : AscendsBelow64 a.form
  pub coefficients : HasSmallCoefficients a.form
  pub constant : unsigned_abs a.constant < 2 ^ 49

-- the first coefficient is positive besides
pub record IsOriented (a : PlainKeyAtom) : Type 0 where
  pub gathered : IsGathered a
  pub begins_positive : BeginsPositive a.form
