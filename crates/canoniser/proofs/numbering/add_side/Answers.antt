use Rattle.std.proofs.Common.{[], take, ◌+◌}
use Rattle.std.specs.List.{cons_option}
use Rattle.slicer.specs.Names.{side_vars}
use Rattle.canoniser.proofs.GainsLemmas.{Gains-more, side_vars_more}
use Rattle.canoniser.proofs.numbering.add_side.Goals as goal

pub loop-term-preserved : goal.loop-term-preserved
loop-term-preserved c =
    let terms = c.args.terms.now in
    let k = c.loop-term.term-index in
    Gains-more c.args.order.now.items c.loop-term.order.items c.add_named.new.order.items (side_vars (take k terms))
    (cons_option c.var.result []) (side_vars (take (k + 1) terms))
    (side_vars_more terms k c.term-item.result c.var.result c.loop-term-test.true c.term-item.is c.var.ensures)
    c.loop-term.invariant (c.in_ok-add_named.ensures {u = tt})
