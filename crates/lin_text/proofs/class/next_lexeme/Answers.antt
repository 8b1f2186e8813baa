use Rattle.lin_text.proofs.NamedLemmas.{named-token}
use Rattle.lin_text.proofs.class.next_lexeme.Goals as goal

pub returns-clause-name : goal.returns-clause-name
returns-clause-name c =
    named-token c.args.in_proof c.args.bytes.now c.args.at c.next_token-token.result c.class_of.result
    c.next_token-token.ensures.token c.class_of.ensures
