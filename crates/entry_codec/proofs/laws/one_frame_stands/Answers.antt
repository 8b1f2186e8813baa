use Rattle.entry_codec.proofs.AnswerLaws.{one_frame}
use Rattle.entry_codec.proofs.laws.one_frame_stands.Goals as goal

pub returns : goal.returns
returns c = one_frame
