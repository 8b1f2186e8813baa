use Rattle.canoniser.proofs.ScaledConditions.{IsKeyOf-scaled}
use Rattle.canoniser.proofs.laws.factors_keep_keys.Goals as goal

pub returns : goal.returns
returns c q d s scaled key = IsKeyOf-scaled q d s key scaled
