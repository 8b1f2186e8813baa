use Rattle.std.proofs.Common.{length}
use Rattle.journal.proofs.SavingLemmas.{TearsAtMost-written, TearsAtMost-synced}
use Rattle.journal.proofs.saving.save.Goals as goal

pub returns-in_err-write_at-clause-at_most : goal.returns-in_err-write_at-clause-at_most
returns-in_err-write_at-clause-at_most g c =
    let wrote = c.write_at.ensures in
    TearsAtMost-written _ _ c.args.at (length c.args.bytes.now) (g.met.D.Disk.consistent c.args.disk.now) wrote.name
    wrote.goes_on wrote.images wrote.cause.later

pub returns-clause-at_most : goal.returns-clause-at_most
returns-clause-at_most g c =
    let wrote = c.write_at.ensures in
    let synced = c.sync.ensures in
    let fits = g.met.D.Disk.consistent c.args.disk.now in
    let written = TearsAtMost-written _ _ c.args.at (length c.args.bytes.now) fits wrote.name wrote.goes_on wrote.images
    wrote.cause.later in
    TearsAtMost-synced _ _ _ c.args.at (length c.args.bytes.now) c.sync.result fits
    (g.met.D.Disk.consistent c.write_at.new.self) written wrote.images synced.name synced.goes_on synced.content
    synced.durable synced.looks synced.cause.later
