use Rattle.std.proofs.Common.{sym, ap, ◌∙◌, subst, Option, Some, List, ℕ}
use Rattle.green_cli.specs.Opened.{FailsToOpenFile}
use Rattle.green_cli.specs.declared.fault.Fault.{Fault}
use Rattle.green_cli.proofs.StoreLemmas.{fails_so, file_opened, left_alone, ok_has, survive_chosen}
use Rattle.green_cli.proofs.store.open_file.Goals as goal

pub returns-in-Err-clause-failed : goal.returns-in-Err-clause-failed
returns-in-Err-clause-failed g c =
    let before = g.D.Disk.state c.args.disk in
    let after = g.D.Disk.state c.bind.new.self in
    let bound = c.bind.ensures in
    record {
      rose = (c.in-Err.ensures {u = tt}).cause.failed;
      left = left_alone before.content after.content bound.looks.content;
      survive = survive_chosen before after (g.met.D.Disk.consistent c.args.disk) bound.looks bound.goes_on
          c.kept_entries_are_held.ensures (g.met.D.Disk.consistent c.bind.new.self);
    }

pub returns-in-Ok-clause-opened : goal.returns-in-Ok-clause-opened
returns-in-Ok-clause-opened g c =
    let opened = c.in-Ok.ensures {u = tt} in
    let bound = c.bind.ensures in
    file_opened g.D.Disk.state c.args.name.now c.args.disk (g.D.Disk.state c.bind.new.self)
    (g.met.D.Disk.consistent c.args.disk) bound.looks bound.goes_on bound.cause.later
    (ok_has c.bind.result _ c.in_default.not-Err bound.bound
    ∙ ap (λ (name : List ℕ). Some name) c.as_str.ensures)
    c.in-Ok.journal c.in-Ok.recovered opened.opens opened.fresh opened.in_order opened.kept

pub returns-in-Err-recover-clause-failed : goal.returns-in-Err-recover-clause-failed
returns-in-Err-recover-clause-failed g c =
    let before = g.D.Disk.state c.args.disk in
    let after = g.D.Disk.state c.in-Err-recover.disk in
    let bound = c.bind.ensures in
    subst (λ (fault : Fault). FailsToOpenFile before after fault) (sym c.into.ensures)
    (fails_so before (g.D.Disk.state c.bind.new.self) (g.met.D.Disk.consistent c.args.disk) bound.looks bound.goes_on
    c.kept_entries_are_held.ensures after (g.met.D.Disk.consistent c.in-Err-recover.disk) bound.cause.later
    c.in-Err-recover.fault (c.in-Err-recover.ensures {u = tt}).fails)
