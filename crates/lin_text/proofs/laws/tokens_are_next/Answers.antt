-- The token that is found is the next one.
use Rattle.lin_text.proofs.NextTokens.{tokens_are_next as proved}
use Rattle.lin_text.proofs.laws.tokens_are_next.Goals as goal

pub returns : goal.returns
returns c = proved
