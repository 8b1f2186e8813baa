use Rattle.std.proofs.Common.{◌≡◌, length, ap, sym, append-nil, arith}
use Rattle.journal.specs.Journals.{saved_in}
use Rattle.journal.proofs.OpenedLemmas.{keeps_opened, whole_opened, numbers_opened}
use Rattle.journal.proofs.journal.Journal.recover.Goals as goal

pub invariant_of-journal : goal.invariant_of-journal
invariant_of-journal g c =
    let o = c.in-Ok.ensures {u = tt} in
    let long : c.len-len.result ≡ length c.in-Ok.opened.0.entries.items =
    omega (arith, c.len-len.ensures, c.in-Ok.opened.1.ok.0, ap length o.copied) in
    rw (c.of-made.ensures, o.copied, c.new.ensures.items) (
      keeps_opened g.D.Disk.state g.met.D.Disk.consistent _ _ _ o.opens o.in_order,
      numbers_opened g.D.Disk.state g.met.D.Disk.consistent _ _ _ o.opens o.in_order c.len-len.result long,
    )

pub returns-clause-list : goal.returns-clause-list
unfolding saved_in
returns-clause-list g c =
    let o = c.in-Ok.ensures {u = tt} in
    rw (o.copied, c.new.ensures.items) (sym (append-nil _))

pub returns-clause-kept : goal.returns-clause-kept
returns-clause-kept g c =
    let o = c.in-Ok.ensures {u = tt} in
    rw (c.of-made.ensures, o.copied, c.new.ensures.items)
    (keeps_opened g.D.Disk.state g.met.D.Disk.consistent _ _ _ o.opens o.in_order)

pub returns-clause-whole : goal.returns-clause-whole
returns-clause-whole g c = λ none.
    let o = c.in-Ok.ensures {u = tt} in
    rw (c.of-made.ensures, o.copied, c.new.ensures.items)
    (whole_opened g.D.Disk.state g.met.D.Disk.consistent _ _ _ o.opens o.in_order none)
