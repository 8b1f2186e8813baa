use Rattle.journal.proofs.HeaderLemmas.{limits}
use Rattle.journal.proofs.laws.file_limits_are_fixed.Goals as goal

pub returns : goal.returns
returns c = limits
