use Rattle.pipeline.proofs.AnswerLemmas.{right_with_saves}
use Rattle.pipeline.proofs.laws.answers_are_right.Goals as goal

pub returns : goal.returns
returns c = right_with_saves c.asking_keeps_replies.ensures c.writes_are_kept.ensures
