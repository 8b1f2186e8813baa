use Rattle.cert_check.specs.Replies.{StandsFor}
use Rattle.green_cli.specs.Answered.{IsRightReport}
use Rattle.green_cli.specs.declared.outcome.Report.{Report}
use Rattle.green_cli.proofs.ReportLemmas.{of_ok}
use Rattle.green_cli.proofs.RunLemmas.{have_answers}
use Rattle.green_cli.proofs.solve.answer.Goals as goal

pub spelled-requires : goal.spelled-requires
spelled-requires g c =
    let report = c.in-Ok.report in
    let right = of_ok (λ (r : Report). IsRightReport c.args.budget c.args.opened.recovered.entries.items
    c.args.opened.journal.off r) c.report_session-report.result.0 report c.in-Ok.is c.report_session-report.ensures.right in
    have_answers (StandsFor report.log report.entries 0 c.args.budget) report.session report.answers right.answers
