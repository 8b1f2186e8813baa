use Rattle.entry_codec.proofs.AnswerLaws.{ends_exclude}
use Rattle.entry_codec.proofs.laws.ends_exclude_frames.Goals as goal

pub returns : goal.returns
returns c = ends_exclude c.each_tree_has_one_answer.ensures
