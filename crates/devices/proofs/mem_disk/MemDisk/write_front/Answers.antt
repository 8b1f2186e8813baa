use Rattle.std.proofs.Common.{sym, subst, rules}
use Rattle.devices.specs.Steps.{AreOrdered}
use Rattle.devices.specs.MemDisk.{MemDiskState}
use Rattle.devices.proofs.StepLemmas.{pushed_write}
use Rattle.devices.proofs.mem_disk.MemDisk.write_front.Goals as goal

pub invariant_of-self-2 : goal.invariant_of-self-2
invariant_of-self-2 c =
    let ordered = subst (λ (disk : MemDiskState). AreOrdered c.args.call disk.steps) (sym c.self.view_is) c.requires.ordered in
    pushed_write c.self.inside.bytes.items c.patch.new.file.items c.self.inside.steps.items c.push_reserved.new.self.items
    c.in_ok-write.write c.args.call c.self.inside.calls c.args.at c.args.piece.now c.args.done
    (search rules) c.requires.done (search rules) ordered c.self.invariant.1 (search rules) (search rules) (search rules)
