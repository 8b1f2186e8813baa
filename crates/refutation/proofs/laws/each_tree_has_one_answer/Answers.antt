use Rattle.refutation.proofs.OneAnswer.{one_answer}
use Rattle.refutation.proofs.laws.each_tree_has_one_answer.Goals as goal

pub returns : goal.returns
returns c = one_answer
