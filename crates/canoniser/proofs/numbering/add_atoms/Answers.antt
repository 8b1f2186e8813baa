use Rattle.std.proofs.Common.{[], take, get_or, ◌+◌}
use Rattle.std.specs.List.{cons_option, filter_map, flat_map, slice_get}
use Rattle.slicer.specs.Names.{atom_vars}
use Rattle.canoniser.proofs.GainsLemmas.{Gains-more, named_more}
use Rattle.canoniser.proofs.numbering.add_atoms.Goals as goal

pub loop-j-preserved : goal.loop-j-preserved
loop-j-preserved c =
    let atoms = c.args.atoms.now in
    let numbers = c.args.numbers.now in
    let k = c.loop-j.j-index in
    Gains-more c.args.order.now.items c.loop-j.order.items c.add_numbered.new.order.items
    (flat_map atom_vars (filter_map (λ j. slice_get atoms j) (take k numbers)))
    (flat_map atom_vars (cons_option (slice_get atoms (get_or numbers k 0)) []))
    (flat_map atom_vars (filter_map (λ j. slice_get atoms j) (take (k + 1) numbers)))
    (named_more atoms numbers k c.loop-j-test.true) c.loop-j.invariant (c.in_ok-add_numbered.ensures {u = tt})
