use Rattle.std.proofs.Common.{arith}
use Rattle.devices.proofs.StepLemmas.{AreOrdered-later}
use Rattle.devices.proofs.mem_disk.MemDisk.begin.Goals as goal

pub invariant_of-self : goal.invariant_of-self
invariant_of-self c = (AreOrdered-later c.self.inside.calls _ _ (omega arith) c.self.invariant.0, c.self.invariant.1)

pub invariant_of-self-else-listed : goal.invariant_of-self-else-listed
invariant_of-self-else-listed c =
    (AreOrdered-later c.self.inside.calls _ _ (omega arith) c.self.invariant.0, c.self.invariant.1)
