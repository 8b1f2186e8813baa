use Rattle.journal.proofs.JournalLemmas.{keeps_off, numbers_off}
use Rattle.journal.proofs.journal.Journal.off.Goals as goal

pub invariant_of-result : goal.invariant_of-result
invariant_of-result g c =
    rw (c.of-made.ensures, c.new.ensures.items, c.new-2.ensures.items) (keeps_off g.D.Disk.state c.args.disk, numbers_off c.args.disk)

pub returns-clause-kept : goal.returns-clause-kept
returns-clause-kept g c =
    rw (c.of-made.ensures, c.new.ensures.items, c.new-2.ensures.items) (keeps_off g.D.Disk.state c.args.disk)
