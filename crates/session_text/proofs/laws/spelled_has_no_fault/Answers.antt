-- What is spelled has no fault.
use Rattle.session_text.proofs.SessionNoFault.{SpellsSession-no_fault}
use Rattle.session_text.proofs.laws.spelled_has_no_fault.Goals as goal

pub returns : goal.returns
returns c = SpellsSession-no_fault c.texts_are_lawful.ensures
