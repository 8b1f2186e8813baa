use Rattle.std.proofs.Common.{List, sym, subst}
use Rattle.cert_check.specs.declared.reply.Reply.{Reply}
use Rattle.pipeline.specs.Asking.{AreSettled, IsRightFor}
use Rattle.pipeline.proofs.AnswerLemmas.{all_settled, answers_by_keys, keys_boxed, vain_behind, vain_by_keys}
use Rattle.pipeline.proofs.AskLemmas.{on_err}
use Rattle.pipeline.proofs.query.answer_by_keys.Goals as goal

pub ask_keys-requires : goal.ask_keys-requires
ask_keys-requires g c =
    keys_boxed c.bounded_keys_are_boxed.ensures c.args.query.now c.requires.are.classes c.args.slices.now
    c.requires.each c.requires.limits

pub returns-in_err-parts-clause-in_vain : goal.returns-in_err-parts-clause-in_vain
returns-in_err-parts-clause-in_vain g c =
    on_err c.from_residual.result _
    (vain_by_keys c.bounded_keys_are_boxed.ensures (g.O.SliceOracle.budget c.args.oracle.now) c.args.query.now
    c.args.slices.now (g.O.SliceOracle.seat c.args.oracle.now) (g.O.SliceOracle.seat c.ask_keys.new.oracle) c.requires
    (c.in_err-parts.ensures {u = tt}).in_vain)

pub verdict_on-requires-clause-settled : goal.verdict_on-requires-clause-settled
verdict_on-requires-clause-settled g c =
    subst (λ (replies : List Reply). AreSettled c.args.slices.now replies) (sym c.as_slice.ensures)
    (all_settled c.asking_keeps_replies.ensures c.replies_settle.ensures (g.O.SliceOracle.budget c.args.oracle.now)
    c.args.slices.now c.in_ok-parts.parts (g.O.SliceOracle.seat c.args.oracle.now)
    (g.O.SliceOracle.seat c.ask_keys.new.oracle) (c.in_ok-parts.ensures {u = tt}).asks)

pub returns-in_err-verdict-clause-in_vain : goal.returns-in_err-verdict-clause-in_vain
returns-in_err-verdict-clause-in_vain g c =
    on_err c.from_residual-in_err-verdict.result _
    (vain_behind c.bounded_keys_are_boxed.ensures (g.O.SliceOracle.budget c.args.oracle.now) c.args.query.now
    c.args.slices.now c.in_ok-parts.parts (g.O.SliceOracle.seat c.args.oracle.now)
    (g.O.SliceOracle.seat c.ask_keys.new.oracle) c.requires (c.in_ok-parts.ensures {u = tt}).asks)

pub returns-clause-answer : goal.returns-clause-answer
returns-clause-answer g c =
    answers_by_keys c.asking_keeps_replies.ensures c.bounded_keys_are_boxed.ensures
    (g.O.SliceOracle.budget c.args.oracle.now) c.args.query.now c.args.slices.now c.in_ok-parts.parts
    c.in_ok-verdict.verdict (g.O.SliceOracle.seat c.args.oracle.now) (g.O.SliceOracle.seat c.ask_keys.new.oracle)
    (c.in_ok-parts.ensures {u = tt}).asks
    (subst (λ (replies : List Reply). IsRightFor c.args.query.now c.args.slices.now replies c.in_ok-verdict.verdict)
    c.as_slice.ensures (c.in_ok-verdict.ensures {u = tt}))
