-- Lines and tokens are in order.
use Rattle.lin_text.proofs.Positions.{lines_in_order}
use Rattle.lin_text.proofs.laws.lines_are_in_order.Goals as goal

pub returns : goal.returns
returns c = lines_in_order
