use Rattle.pipeline.proofs.SufficientLemmas.{sufficient-decides}
use Rattle.pipeline.proofs.laws.sufficient_budgets_decide.Goals as goal

pub returns : goal.returns
returns c = sufficient-decides c.open_trees_are_below_room.ensures
