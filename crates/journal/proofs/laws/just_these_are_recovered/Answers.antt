use Rattle.journal.proofs.RunLemmas.{just_these}
use Rattle.journal.proofs.laws.just_these_are_recovered.Goals as goal

pub returns : goal.returns
returns c = just_these
