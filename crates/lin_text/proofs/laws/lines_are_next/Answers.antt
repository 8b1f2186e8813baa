-- The line that is found is the next one.
use Rattle.lin_text.proofs.NextLines.{lines_are_next as proved}
use Rattle.lin_text.proofs.laws.lines_are_next.Goals as goal

pub returns : goal.returns
returns c = proved
