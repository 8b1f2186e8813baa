use Rattle.std.proofs.Common.{refl}
use Rattle.refutation.proofs.sum.zeros.Goals as goal

pub returns : goal.returns
returns c = refl
