use Rattle.std.proofs.Common.{refl}
use Rattle.refutation.proofs.bounds.missing_sides.Goals as goal

pub returns : goal.returns
returns c = refl
