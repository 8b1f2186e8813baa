use Rattle.std.proofs.Common.{rules}
use Rattle.devices.proofs.MemDiskLemmas.{Syncs-goes_on}
use Rattle.devices.proofs.RememberLemmas.{ordered_before, KeepsFile-remembers, sync_syncs, sync_remembers}
use Rattle.devices.proofs.mem_disk.MemDiskDisk.sync.Goals as goal

pub returns-then-begin-clause-remembers : goal.returns-then-begin-clause-remembers
returns-then-begin-clause-remembers c =
    KeepsFile-remembers c.args.self.now _ (ordered_before c.args.self.now _ _ _ c.begin.ensures.counted c.begin.ensures.ordered)
    (search rules) (search rules)

pub returns-then-is_err-clause-remembers : goal.returns-then-is_err-clause-remembers
returns-then-is_err-clause-remembers c =
    KeepsFile-remembers c.args.self.now _ (ordered_before c.args.self.now _ _ _ c.begin.ensures.counted c.begin.ensures.ordered)
    (search rules) (search rules)

pub returns-clause-synced : goal.returns-clause-synced
returns-clause-synced c =
    sync_syncs c.args.self.now _ (ordered_before c.args.self.now _ _ _ c.begin.ensures.counted c.begin.ensures.ordered) (search rules)
    (search rules) (search rules)

pub returns-clause-remembers : goal.returns-clause-remembers
returns-clause-remembers c =
    sync_remembers c.args.self.now _ (ordered_before c.args.self.now _ _ _ c.begin.ensures.counted c.begin.ensures.ordered) (search rules)
    (search rules) (search rules)

pub returns-clause-goes_on : goal.returns-clause-goes_on
returns-clause-goes_on c = Syncs-goes_on _ _ (returns-clause-synced c)
