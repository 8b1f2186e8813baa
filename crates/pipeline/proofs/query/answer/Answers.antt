use Rattle.std.proofs.Common.{List, sym, subst}
use Rattle.cert_check.specs.declared.reply.Reply.{Reply}
use Rattle.pipeline.specs.declared.answers.Verdict.TheVariants.{UnsatAtom}
use Rattle.pipeline.specs.Answers.{AnswersQuery}
use Rattle.pipeline.specs.Keyed.{HasLeastFalse, IsKeyedQuery}
use Rattle.pipeline.proofs.AnswerLemmas.{answers_by_atom, vain_at_once}
use Rattle.pipeline.proofs.AskLemmas.{on_err}
use Rattle.pipeline.proofs.query.answer.Goals as goal

pub returns-in_err-j-clause-in_vain : goal.returns-in_err-j-clause-in_vain
returns-in_err-j-clause-in_vain g c =
    on_err c.from_residual.result _
    (vain_at_once (g.O.SliceOracle.budget c.args.oracle.now) c.args.query.now
    (c.slices_exist.ensures c.args.query.now).are.classes (g.O.SliceOracle.seat c.args.oracle.now)
    (c.slices_exist.ensures c.args.query.now).are.linked)

pub returns-in-False-clause-answer : goal.returns-in-False-clause-answer
returns-in-False-clause-answer g c =
    let found : HasLeastFalse c.args.query.now c.in-False.j =
    subst (IsKeyedQuery c.args.query.now) c.in-False.is (c.in_ok-j.ensures {u = tt}) in
    subst (λ (parts : List Reply). AnswersQuery (g.O.SliceOracle.budget c.args.oracle.now) c.args.query.now
    (record { verdict = UnsatAtom c.in-False.j; parts = parts }) (g.O.SliceOracle.seat c.args.oracle.now)
    (g.O.SliceOracle.seat c.args.oracle.now)) (sym c.new.ensures)
    (answers_by_atom (g.O.SliceOracle.budget c.args.oracle.now) c.args.query.now c.in-False.j
    (g.O.SliceOracle.seat c.args.oracle.now) found)
