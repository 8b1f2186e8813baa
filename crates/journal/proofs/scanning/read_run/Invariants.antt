use Rattle.outside.specs.Runs.{OnlyLooks}
use Rattle.journal.proofs.ScanLemmas.{IsRun}
use Rattle.journal.proofs.scanning.read_run.Given as goal

abbrev pub invariant-loop-turn : goal.invariant-loop-turn
invariant-loop-turn g l =
    IsRun (g.D.Disk.state l.fn.disk).content l.at l.entries.items l._turn
    × OnlyLooks (g.D.Disk.state l.fn.disk) (g.D.Disk.state l.disk)
