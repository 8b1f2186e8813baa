use Rattle.unsat_core.proofs.ReadingTrees.{closed_alike}
use Rattle.unsat_core.proofs.laws.choices_are_closed_alike.Goals as goal

pub returns : goal.returns
returns c = closed_alike
