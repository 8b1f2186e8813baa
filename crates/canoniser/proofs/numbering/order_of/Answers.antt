use Rattle.canoniser.proofs.GainsLemmas.{order_of_made}
use Rattle.canoniser.proofs.numbering.order_of.Goals as goal

pub returns : goal.returns
returns c =
    order_of_made c.args.c.now c.args.s.now c.new-order.result.items c.add_atoms.new.order.items
    c.add_all.new.order.items c.atoms.result.now c.atoms-2.result.now c.vars.result.now c.new-order.ensures.items
    c.atoms.ensures.atoms c.atoms-2.ensures c.vars.ensures (c.in_ok-add_atoms.ensures {u = tt})
    (c.in_ok-add_all.ensures {u = tt})
