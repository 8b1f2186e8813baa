-- A text spells a session or has a fault.
use Rattle.session_text.proofs.SessionOrFault.{SpellsSession-or_fault}
use Rattle.session_text.proofs.laws.spelled_or_faulty.Goals as goal

pub returns : goal.returns
returns c = SpellsSession-or_fault c.texts_are_lawful.ensures c.spelled_or_faulty.ensures
