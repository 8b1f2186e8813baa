-- A text spells one session.
use Rattle.session_text.proofs.SessionOnce.{SpellsSession-once}
use Rattle.session_text.proofs.laws.spelled_once.Goals as goal

pub returns : goal.returns
returns c = SpellsSession-once c.spelled_once.ensures
