use Rattle.refutation.proofs.Soundness.{Refutes-no_point}
use Rattle.refutation.proofs.laws.refuted_keys_have_no_point.Goals as goal

pub returns : goal.returns
returns c = Refutes-no_point
