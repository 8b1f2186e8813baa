use Rattle.std.proofs.Common.{◌≡◌, ◌<◌, ◌-◌, ◌^◌, List, reverse, sym, subst, arith, rules}
use Rattle.devices.specs.Steps.{began, step_in, with_front, BeginsWithin}
use Rattle.devices.specs.MemDisk.{MemDiskState, MayBeLeftWithin}
use Rattle.devices.specs.declared.step.Step.{Step}
use Rattle.devices.proofs.StepLemmas.{begins_within, image_left}
use Rattle.devices.proofs.MomentLemmas.{left_since_began}
use Rattle.devices.proofs.mem_disk.MemDisk.image.Goals as goal

pub put_front-requires-clause-within : goal.put_front-requires-clause-within
put_front-requires-clause-within c =
    let few : c.args.call < 2 ^ 64 - 1 = omega arith in
    let file_is : c.undo_from.new.file.items
    ≡ (began c.self.inside.bytes.items (reverse c.self.inside.steps.items) c.args.call).file = search rules in
    subst (λ (steps : List Step). BeginsWithin (step_in (reverse steps) c.args.call) c.undo_from.new.file.items)
    (sym c.deref-3.ensures.value)
    (subst (BeginsWithin (step_in (reverse c.self.inside.steps.items) c.args.call)) (sym file_is)
    (begins_within c.self.inside.bytes.items (reverse c.self.inside.steps.items) c.self.inside.calls c.args.call
    c.self.invariant.0 c.self.invariant.1 few))

pub returns-clause-within : goal.returns-clause-within
returns-clause-within c =
    let few : c.args.call < 2 ^ 64 - 1 = omega arith in
    let image_is : c.put_front.new.file.items
    ≡ with_front (step_in (reverse c.self.inside.steps.items) c.args.call) c.args.kept
    (began c.self.inside.bytes.items (reverse c.self.inside.steps.items) c.args.call).file = search rules in
    subst (λ (disk : MemDiskState). MayBeLeftWithin disk c.args.call c.put_front.new.file.items) c.self.view_is
    (image_left c.self.inside.bytes.items c.put_front.new.file.items (reverse c.self.inside.steps.items)
    c.self.inside.calls c.args.call c.args.kept c.self.invariant.0 few image_is)

pub returns-clause-since : goal.returns-clause-since
returns-clause-since c =
    left_since_began c.args.self.now.bytes c.args.self.now.steps c.args.call c.put_front.new.file.items
    (returns-clause-within c)
