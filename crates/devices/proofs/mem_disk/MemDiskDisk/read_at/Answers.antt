use Rattle.std.proofs.Common.{rules}
use Rattle.devices.proofs.RememberLemmas.{ordered_before, KeepsFile-remembers}
use Rattle.devices.proofs.mem_disk.MemDiskDisk.read_at.Goals as goal

pub returns-then-begin-clause-remembers : goal.returns-then-begin-clause-remembers
returns-then-begin-clause-remembers c =
    KeepsFile-remembers c.args.self.now _ (ordered_before c.args.self.now _ _ _ c.begin.ensures.counted c.begin.ensures.ordered)
    (search rules) (search rules)

pub returns-clause-remembers : goal.returns-clause-remembers
returns-clause-remembers c =
    KeepsFile-remembers c.args.self.now _ (ordered_before c.args.self.now _ _ _ c.begin.ensures.counted c.begin.ensures.ordered)
    (search rules) (search rules)
