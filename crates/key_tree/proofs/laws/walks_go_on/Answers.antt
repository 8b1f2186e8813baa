use Rattle.key_tree.proofs.WalkLemmas.{walks_go}
use Rattle.key_tree.proofs.laws.walks_go_on.Goals as goal

pub returns : goal.returns
returns c = walks_go
