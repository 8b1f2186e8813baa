use Rattle.refutation.proofs.TightCuts.{are_tight}
use Rattle.refutation.proofs.laws.cuts_are_tight.Goals as goal

pub returns : goal.returns
returns c = are_tight
