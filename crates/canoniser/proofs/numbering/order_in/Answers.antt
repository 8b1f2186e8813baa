use Rattle.std.proofs.Common.{[]}
use Rattle.canoniser.proofs.numbering.order_in.Goals as goal

pub returns : goal.returns
returns c = c.in_ok-add_atom.ensures {u = tt} [] c.new-order.ensures.items
