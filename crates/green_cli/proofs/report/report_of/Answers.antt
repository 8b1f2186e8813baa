use Rattle.std.proofs.Common.{ap, arith}
use Rattle.green_cli.specs.declared.outcome.Report.{Report}
use Rattle.green_cli.proofs.ReportLemmas.{ok_weaker}
use Rattle.green_cli.proofs.report.report_of.Goals as goal

pub overflow_sub-len : goal.overflow_sub-len
overflow_sub-len g c = omega (arith, c.requires, c.len.ensures.len)

pub returns-clause-report : goal.returns-clause-report
returns-clause-report g c =
    ok_weaker _ _ c.with_store.result (λ report is. (
      ap (λ (r : Report). r.session) is,
      ap (λ (r : Report). r.answers) is,
      ap (λ (r : Report). r.log) is,
      ap (λ (r : Report). r.entries) is,
      omega (
        arith,
        ap (λ (r : Report). r.saved) is,
        c.from-saved.ensures,
        c.len.ensures.len,
        c.requires,
      ),
    )) c.with_store.ensures
