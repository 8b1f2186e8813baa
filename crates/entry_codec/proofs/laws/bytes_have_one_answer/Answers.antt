use Rattle.entry_codec.proofs.AnswerLaws.{has_one_answer}
use Rattle.entry_codec.proofs.laws.bytes_have_one_answer.Goals as goal

pub returns : goal.returns
returns c = has_one_answer c.each_tree_has_one_answer.ensures
