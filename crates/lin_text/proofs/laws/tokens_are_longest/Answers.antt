use Rattle.lin_text.proofs.Longest.{takes_the_longest}
use Rattle.lin_text.proofs.laws.tokens_are_longest.Goals as goal

pub returns : goal.returns
returns c = takes_the_longest
