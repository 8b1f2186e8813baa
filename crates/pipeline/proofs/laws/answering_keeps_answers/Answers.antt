use Rattle.pipeline.proofs.RunLemmas.{keeps_answers}
use Rattle.pipeline.proofs.laws.answering_keeps_answers.Goals as goal

pub returns : goal.returns
returns c = keeps_answers c.asking_keeps_replies.ensures c.asks_join.ensures c.replies_go_on_standing.ensures
