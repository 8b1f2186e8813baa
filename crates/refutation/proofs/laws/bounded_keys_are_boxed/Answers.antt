use Rattle.refutation.proofs.BoundedLemmas.{bounded-boxed}
use Rattle.refutation.proofs.laws.bounded_keys_are_boxed.Goals as goal

pub returns : goal.returns
returns c = bounded-boxed
