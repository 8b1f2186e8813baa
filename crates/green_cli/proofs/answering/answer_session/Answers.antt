use Rattle.std.proofs.Common.{◌≡◌, ◌∙◌, ℕ, List, sym, subst}
use Rattle.lin_model.specs.Conditions.{PlainCondition}
use Rattle.pipeline.specs.Runs.{AnswersAll}
use Rattle.journal.specs.Journals.{PlainJournal}
use Rattle.store_core.specs.Cores.{PlainCore, started}
use Rattle.shared_store.specs.Local.{PlainStore, seat_of_both}
use Rattle.green_cli.specs.Answered.{in_order}
use Rattle.green_cli.proofs.answering.answer_session.Goals as goal

pub returns-in-Ok-clause-run : goal.returns-in-Ok-clause-run
returns-in-Ok-clause-run g c =
    let store = c.in_ok-store.store in
    let answers = in_order c.in-Ok.answers in
    let opened = c.args.opened in
    let after = c.answer_executors-answers.new.oracle in
    let old = seat_of_both (started opened.recovered.entries.items) opened.journal in
    let run = (c.in-Ok.ensures {u = tt}).run in
    let begun = subst (λ (s : PlainStore g.row.D.Denot). AnswersAll s.budget (in_order c.executors.result.now) answers
    (seat_of_both s.core s.journal) (seat_of_both after.core after.journal)) (c.in_ok-store.ensures {u = tt}).started
    run in
    let within = subst (λ (n : ℕ). AnswersAll n (in_order c.executors.result.now) answers old
    (seat_of_both after.core after.journal)) c.splits.ensures.splits begun in
    let asked = subst (λ (es : List (List PlainCondition)). AnswersAll c.args.budget (in_order es) answers old
    (seat_of_both after.core after.journal)) c.executors.ensures.executors within in
    let closed = subst (λ (core : PlainCore). AnswersAll c.args.budget (in_order c.args.session.now) answers old
    (seat_of_both core after.journal)) (sym c.close-core.ensures.core) asked in
    subst (λ (journal : PlainJournal g.row.D.Denot). AnswersAll c.args.budget (in_order c.args.session.now) answers old
    (seat_of_both c.close-core.result.0 journal)) (sym c.close-core.ensures.journal) closed
