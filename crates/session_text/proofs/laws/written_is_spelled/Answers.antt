-- What is written is spelled.
use Rattle.session_text.proofs.SessionWritten.{SpellsSession-written}
use Rattle.session_text.proofs.laws.written_is_spelled.Goals as goal

pub returns : goal.returns
returns c = SpellsSession-written c.tokens_move_with_their_text.ensures c.written_is_spelled_within.ensures
