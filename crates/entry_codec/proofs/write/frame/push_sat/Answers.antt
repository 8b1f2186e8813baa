use Rattle.std.proofs.Common.{subst}
use Rattle.std.proofs.lemmas.Result.{on_ok_weaker}
use Rattle.lin_model.specs.Point.{IsPoint}
use Rattle.entry_codec.proofs.WritingLaws.{sat_in_grammar}
use Rattle.entry_codec.proofs.write.frame.push_sat.Goals as goal

pub returns-clause-grammar : goal.returns-clause-grammar
returns-clause-grammar c =
    on_ok_weaker c.push_point.result
    (λ added. sat_in_grammar c.args.entry.now c.key.ensures.is_key c.key.ensures.satisfied
    (subst IsPoint c.point.ensures.point c.push_point.ensures.is_point))
    c.push_point.ensures.bytes
