use Rattle.green_cli.proofs.StoreLemmas.{none_opened_so}
use Rattle.green_cli.proofs.store.open.Goals as goal

pub returns-in-None-clause-opened : goal.returns-in-None-clause-opened
returns-in-None-clause-opened g c =
    rw c.in-None.is
    (none_opened_so g.D.Disk.state c.args.disk c.off.result c.nothing.result c.off.ensures.made c.off.ensures.kept
    c.nothing.ensures)
