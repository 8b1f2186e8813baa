use Rattle.std.proofs.lemmas.Result.{err_from_is_err_and}
use Rattle.journal.specs.declared.recovered.StartFault.TheVariants as faults
use Rattle.journal.proofs.OpeningLemmas.{FailsToOpen-looked, Opens-looked, FailsToOpen-torn, Opens-begun, begun_by, unbegun_by}
use Rattle.journal.proofs.opening.open.Goals as goal
use Rattle.journal.proofs.opening.open.Goals.{then-not-begun+in_ok-save, else-not-begun}

pub returns-in_err-recovered-clause-fails : goal.returns-in_err-recovered-clause-fails
returns-in_err-recovered-clause-fails g c =
    let p = err_from_is_err_and c.from_residual.result c.from_residual.ensures.1 in
    rw (p.1, p.2)
    (FailsToOpen-looked _ _ (g.met.D.Disk.consistent c.args.disk.now) c.scan_begun.ensures.looks _
    (c.in_err-recovered.ensures {u = tt}).cause)

pub returns-in_err-opening-clause-fails : goal.returns-in_err-opening-clause-fails
returns-in_err-opening-clause-fails g c =
    let p = err_from_is_err_and c.from_residual-in_err-opening.result c.from_residual-in_err-opening.ensures.1 in
    rw (p.1, p.2)
    (FailsToOpen-looked _ _ (g.met.D.Disk.consistent c.args.disk.now) c.scan_begun.ensures.looks faults.NoMemory tt)

pub returns-in_err-save-clause-fails : goal.returns-in_err-save-clause-fails
returns-in_err-save-clause-fails g c =
    let p = err_from_is_err_and c.from_residual-in_err-save.result c.from_residual-in_err-save.ensures.1 in
    let s = c.in_err-save.ensures {u = tt} in
    rw (p.1, p.2)
    (FailsToOpen-torn _ _ _ (g.met.D.Disk.consistent c.args.disk.now) c.scan_begun.ensures.looks
    (unbegun_by _ _ c.in_ok-recovered.ensures.begun c.if-not-begun.true) c.save.ensures.at_most s.cause.failed s.torn)

pub returns-clause-opens : goal.returns-clause-opens
returns-clause-opens g c =
    let fits = g.met.D.Disk.consistent c.args.disk.now in
    elim c.if-not-begun.branch [
      | then-not-begun+in_ok-save w ↦ rw w.disk-is
          (Opens-begun _ _ _ fits c.scan_begun.ensures.looks
          (unbegun_by _ _ c.in_ok-recovered.ensures.begun w.if-not-begun.true) w.save.ensures.at_most _
          c.in_ok-recovered.ensures.recovered w.in_ok-save.ensures.saved)
      | else-not-begun w ↦ rw w.disk-is
          (Opens-looked _ _ fits c.scan_begun.ensures.looks _ c.in_ok-recovered.ensures.recovered
          (begun_by _ _ c.in_ok-recovered.ensures.begun w.if-not-begun.false))
    ]
