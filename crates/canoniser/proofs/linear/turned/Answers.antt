use Rattle.std.proofs.Common.{rules}
use Rattle.canoniser.specs.Forms.{turned}
use Rattle.canoniser.proofs.LimitsLemmas.{IsGathered-same, IsGathered-turned}
use Rattle.canoniser.proofs.linear.turned.Goals as goal

pub returns-clause-limits : goal.returns-clause-limits
returns-clause-limits c =
    IsGathered-same _ (turned c.args.a.now) (search rules) (IsGathered-turned c.args.a.now c.requires)
