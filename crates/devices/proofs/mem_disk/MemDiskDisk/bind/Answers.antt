use Rattle.std.proofs.Common.{rules}
use Rattle.devices.proofs.RememberLemmas.{ordered_before, KeepsFile-remembers}
use Rattle.devices.proofs.mem_disk.MemDiskDisk.bind.Goals as goal

pub returns-then-begin-clause-remembers : goal.returns-then-begin-clause-remembers
returns-then-begin-clause-remembers c =
    KeepsFile-remembers c.args.self.now _ (ordered_before c.args.self.now _ _ _ c.begin.ensures.counted c.begin.ensures.ordered)
    (search rules) (search rules)

pub returns-in-Ok-clause-remembers : goal.returns-in-Ok-clause-remembers
returns-in-Ok-clause-remembers c =
    KeepsFile-remembers c.args.self.now _ (ordered_before c.args.self.now _ _ _ c.begin.ensures.counted c.begin.ensures.ordered)
    (search rules) (search rules)

pub returns-in-Err-clause-remembers : goal.returns-in-Err-clause-remembers
returns-in-Err-clause-remembers c =
    KeepsFile-remembers c.args.self.now _ (ordered_before c.args.self.now _ _ _ c.begin.ensures.counted c.begin.ensures.ordered)
    (search rules) (search rules)
