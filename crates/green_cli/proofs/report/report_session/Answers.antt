use Rattle.std.proofs.Common.{◌≡◌, ◌∙◌, ℕ, ◌+◌, List, ◌++◌, ap, sym, subst, arith, length, length-append, append-nil, refl}
use Rattle.cert_check.specs.declared.entry.Entry.{Entry}
use Rattle.cert_check.specs.declared.wrote.Wrote.{Wrote}
use Rattle.journal.specs.Journals.{JournalOrigin, list_of, saved_in}
use Rattle.green_cli.specs.Answered.{IsRightReport, in_order}
use Rattle.green_cli.specs.Saves.{writes_in}
use Rattle.green_cli.specs.declared.outcome.Report.{Report}
use Rattle.pipeline.specs.Runs.{parts_of}
use Rattle.pipeline.specs.declared.answers.Answer.{Answer}
use Rattle.cert_check.specs.Runs.{writes_of_all}
use Rattle.journal.specs.Journals.{PlainJournal}
use Rattle.store_core.specs.Cores.{started}
use Rattle.shared_store.specs.Local.{seat_of_both}
use Rattle.green_cli.proofs.ReportLemmas.{ok_weaker, reported, wrotes_are}
use Rattle.green_cli.proofs.StoreLemmas.{saved_none}
use Rattle.green_cli.proofs.report.report_session.Goals as goal

pub report_of-requires : goal.report_of-requires
report_of-requires g c =
    let before = c.args.opened.journal in
    let after = c.in-Ok.answered.journal in
    let base : list_of before ≡ before.opening =
    ap (λ (ws : List Wrote). before.opening ++ saved_in ws) c.requires.no_writes
    ∙ (ap (λ (l : List Entry). before.opening ++ l) saved_none ∙ append-nil before.opening) in
    omega (
      arith,
      c.len-opening.ensures.len,
      ap (λ (l : List Entry). length l) base,
      ap (λ (o : JournalOrigin g.row.D.Denot). length o.opening) (c.in-Ok.ensures {u = tt}).origin,
      length-append after.opening (saved_in after.wrotes),
    )

pub returns-in-Ok-clause-right : goal.returns-in-Ok-clause-right
returns-in-Ok-clause-right g c =
    let a = c.in-Ok.answered in
    let e = c.in-Ok.ensures {u = tt} in
    let opening = c.args.opened.recovered.entries.items in
    let before = c.args.opened.journal in
    let kept = c.answering_keeps_answers.ensures c.args.budget (in_order c.args.session) (in_order a.answers)
    (seat_of_both (started opening) before) (seat_of_both a.core a.journal) e.run in
    let long = ap (λ (l : List Entry). length l) c.requires.list in
    ok_weaker _ _ c.report_of.result.0 (λ report is.
    reported c.flights_are_counted.ensures c.flights_begin_rightly.ensures c.args.budget c.args.session a.answers opening
    before a.journal a.core report.saved c.requires.no_writes e.own e.journal e.shape e.run kept
    (omega (arith, is.4, c.len-opening.ensures.len, long)) report (is.0, is.1, is.2, is.3, refl)) c.report_of.ensures.report

pub returns-in-Ok-clause-wrotes : goal.returns-in-Ok-clause-wrotes
returns-in-Ok-clause-wrotes g c =
    let a = c.in-Ok.answered in
    let e = c.in-Ok.ensures {u = tt} in
    let opening = c.args.opened.recovered.entries.items in
    let before = c.args.opened.journal in
    let kept = c.answering_keeps_answers.ensures c.args.budget (in_order c.args.session) (in_order a.answers)
    (seat_of_both (started opening) before) (seat_of_both a.core a.journal) e.run in
    let long = ap (λ (l : List Entry). length l) c.requires.list in
    ok_weaker _ _ c.report_of.result.0 (λ report is.
    ap (λ (j : PlainJournal g.row.D.Denot). j.wrotes) c.report_of.ensures.journal
    ∙ (wrotes_are c.flights_are_counted.ensures c.flights_begin_rightly.ensures c.args.budget c.args.session a.answers
    opening before a.journal a.core report.saved c.requires.no_writes e.own e.journal e.shape e.run kept
    (omega (arith, is.4, c.len-opening.ensures.len, long))
    ∙ ap (λ (answers : List (List Answer)). writes_of_all 0 (parts_of (in_order answers))) (sym is.1)))
    c.report_of.ensures.report
