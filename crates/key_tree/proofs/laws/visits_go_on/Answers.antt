use Rattle.key_tree.proofs.VisitLemmas.{visits_go}
use Rattle.key_tree.proofs.laws.visits_go_on.Goals as goal

pub returns : goal.returns
returns c = visits_go
