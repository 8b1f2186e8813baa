use Rattle.lin_text.proofs.SpelledOrFault.{spelled_or_fault}
use Rattle.lin_text.proofs.laws.spelled_or_faulty.Goals as goal

pub returns : goal.returns
returns c = spelled_or_fault
