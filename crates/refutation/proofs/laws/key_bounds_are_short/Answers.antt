use Rattle.refutation.proofs.BoxedLemmas.{key_bounds-short}
use Rattle.refutation.proofs.laws.key_bounds_are_short.Goals as goal

pub returns : goal.returns
returns c = key_bounds-short
