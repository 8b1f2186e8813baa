-- No reserved word but `var` stands in a line.
use Rattle.lin_text.proofs.Places.{word-begins_no_line}
use Rattle.lin_text.proofs.laws.words_stand_in_no_line.Goals as goal

pub returns : goal.returns
returns c = word-begins_no_line
