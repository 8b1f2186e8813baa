use Rattle.refutation.proofs.SplitLemmas.{halves-proper}
use Rattle.refutation.proofs.laws.cuts_leave_proper_halves.Goals as goal

pub returns : goal.returns
returns c = halves-proper
