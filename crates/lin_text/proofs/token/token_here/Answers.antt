use Rattle.std.proofs.Common.{arith, ◌∙◌, sym}
use Rattle.std.proofs.lemmas.Bool.Decides.{nat_tests}
use Rattle.lin_text.proofs.LineLemmas.{token_here-byte}
use Rattle.lin_text.proofs.token.token_here.Goals as goal

pub returns-clause-token : goal.returns-clause-token
returns-clause-token c =
    c.token_of-2.ensures.token ∙ sym (token_here-byte c.args.at c.args.bytes.now c.bytes_from.result.now
    c.token_length-len.result c.kind_of.result (grind (arith, nat_tests, c.is_empty.ensures, c.if-is_empty.false))
    (sym c.is_feed.ensures ∙ c.if-is_feed.false) c.bytes_from.ensures c.token_length-len.ensures.length
    c.kind_of.ensures)
