use Rattle.std.proofs.Common.{◌≡◌, inl, inr, sym, ap, ◌∙◌, subst, ℕ, List, Result, Ok}
use Rattle.std.specs.Prelude.{IfOk}
use Rattle.green_cli.specs.Answered.{IsRightReport}
use Rattle.green_cli.specs.AnswersText.{answers_text}
use Rattle.green_cli.specs.Call.{change}
use Rattle.green_cli.specs.Saves.{writes_in}
use Rattle.green_cli.specs.Statuses.{Ends, WritesFault, run_status}
use Rattle.green_cli.specs.declared.fault.Fault.{Fault}
use Rattle.green_cli.specs.declared.outcome.Report.{Report}
use Rattle.green_cli.specs.declared.solve.Solved.{Solved}
use Rattle.green_cli.proofs.solve.solve_opened.Goals as goal

of_ok : {T E : Type 0} (P : T → Type 0) (r : Result T E) (t : T) → r ≡ Ok t → IfOk r P → P t
of_ok {T} {E} P r t is h = subst (λ (x : Result T E). IfOk x P) is h

pub returns-in-Ok-clause-ends : goal.returns-in-Ok-clause-ends
returns-in-Ok-clause-ends g c =
    let a = c.answer-solved.ensures in
    let found = c.answer-solved.result.0 in
    let solved = c.in-Ok.field-0 in
    let sink = change (g.K.Sink.state c.args.sink.now) (g.K.Sink.state c.finish.new.sink) in
    let status = c.finish.result.status in
    let report_is : c.finish.result.report ≡ solved.report = c.finish.ensures.report in
    let entries = c.args.opened.recovered.entries.items in
    let text_is = c.as_slice.ensures.value
    ∙ of_ok (λ (s : Solved). s.text.items ≡ answers_text s.report.session s.report.answers) found solved c.in-Ok.is
    a.text in
    inl (record {
      session_is = ap (λ (r : Report). r.session) report_is
          ∙ of_ok (λ (s : Solved). s.report.session ≡ c.args.session) found solved c.in-Ok.is a.session;
      right = subst (λ (r : Report). IsRightReport c.args.budget entries c.args.opened.journal.off r) (sym report_is)
          (of_ok (λ (s : Solved). IsRightReport c.args.budget entries c.args.opened.journal.off s.report) found solved
          c.in-Ok.is a.right);
      journal = c.answer-solved.result.1;
      closes = record {
        kept = a.kept;
        origin = a.origin;
        closed = c.finish.ensures.disk ∙ c.close-disk.ensures.disk;
      };
      wrotes = of_ok (λ (s : Solved). c.answer-solved.result.1.wrotes ≡ writes_in s.report) found solved c.in-Ok.is
          a.wrotes ∙ sym (ap (λ (r : Report). writes_in r) report_is);
      result = subst (λ (r : Report). Ends (answers_text r.session r.answers) (run_status r) sink status)
          (sym report_is)
          (subst (λ (text : List ℕ). Ends text (run_status solved.report) sink status) text_is c.finish.ensures.ends);
    })

pub returns-in-Err-clause-ends : goal.returns-in-Err-clause-ends
returns-in-Err-clause-ends g c =
    let a = c.answer-solved.ensures in
    let w = c.refuse.ensures.writes in
    let sink = change (g.K.Sink.state c.args.sink.now) (g.K.Sink.state c.refuse.new.sink) in
    inr (record {
      refuses = record {
        writes = subst (λ (fault : Fault). WritesFault fault sink c.refuse.result.status) w.for_it w.writes;
        nothing = c.refuse.ensures.nothing;
      };
      journal = c.answer-solved.result.1;
      closes = record {
        kept = a.kept;
        origin = a.origin;
        closed = c.refuse.ensures.disk ∙ c.close-disk.ensures.disk;
      };
    })
