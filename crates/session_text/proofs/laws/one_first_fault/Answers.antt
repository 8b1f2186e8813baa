-- A text has at most one first fault.
use Rattle.session_text.proofs.OneFault.{one_fault}
use Rattle.session_text.proofs.laws.one_first_fault.Goals as goal

pub returns : goal.returns
returns c = one_fault c.lines_are_in_order.ensures
