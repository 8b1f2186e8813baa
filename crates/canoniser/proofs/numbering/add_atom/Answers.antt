use Rattle.slicer.specs.Names.{side_vars, atom_vars}
use Rattle.canoniser.proofs.GainsLemmas.{Gains-more, atom_vars_is}
use Rattle.canoniser.proofs.numbering.add_atom.Goals as goal

pub returns : goal.returns
returns c =
    let left = c.terms.result.now in
    let right = c.terms-2.result.now in
    Gains-more c.args.order.now.items c.add_side.new.order.items c.add_side-2.new.order.items (side_vars left)
    (side_vars right) (atom_vars c.args.atom.now)
    (atom_vars_is c.args.atom.now left right c.terms.ensures.terms c.terms-2.ensures.terms)
    (c.in_ok-add_side.ensures {u = tt}) (c.in_ok-add_side-2.ensures {u = tt})
