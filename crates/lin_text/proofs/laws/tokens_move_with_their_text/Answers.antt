-- Tokens move with their text.
use Rattle.lin_text.proofs.ReadBackFront.{first_token-moved}
use Rattle.lin_text.proofs.laws.tokens_move_with_their_text.Goals as goal

pub returns : goal.returns
returns c = first_token-moved
