use Rattle.std.proofs.Common.{ℕ, List, refl, inl, inr, sym, subst}
use Rattle.green_cli.specs.Call.{change}
use Rattle.green_cli.specs.Dump.{IsDumpOf, dump_cause}
use Rattle.green_cli.specs.Statuses.{Ends, run_status}
use Rattle.green_cli.specs.Stores.{IsUnwritten}
use Rattle.green_cli.specs.declared.outcome.Report.{Report}
use Rattle.green_cli.proofs.DumpStatusLemmas.{dumps_so}
use Rattle.green_cli.proofs.RefusalLemmas.{refused_by}
use Rattle.green_cli.proofs.dump.dump.Goals as goal

pub returns-in-Ok : goal.returns-in-Ok
returns-in-Ok g c source =
    let disk = sym c.finish.ensures.disk in
    let report = sym c.finish.ensures.report in
    let before = g.D.Disk.state c.args.disk in
    let sink = change (g.K.Sink.state c.args.sink.now) (g.K.Sink.state c.finish.new.sink) in
    let status = c.finish.result.status in
    let text = c.in-Ok.field-0.text.items in
    let name = c.args.store.now in
    dumps_so g.D.Disk.state name _
    (inl (record {
      text = text;
      of_file = subst (λ d. IsDumpOf name before (g.D.Disk.state d) c.finish.result.report text) disk
          (subst (λ (r : Report). IsDumpOf name before (g.D.Disk.state c.spell_file.new.disk) r text) report
          c.in-Ok.ensures.dumped);
      result = subst (λ (r : Report). Ends text (run_status r) sink status) report
          (subst (λ (t : List ℕ). Ends t (run_status c.in-Ok.field-0.report) sink status) c.as_slice.ensures.value
          c.finish.ensures.ends);
    }))
    refl (subst (λ d. IsUnwritten before (g.D.Disk.state d)) disk c.spell_file.ensures.unwritten)
    c.finish.ensures.other

pub returns-in-Err : goal.returns-in-Err
returns-in-Err g c source =
    let disk = sym c.refuse.ensures.disk in
    let before = g.D.Disk.state c.args.disk in
    dumps_so g.D.Disk.state c.args.store.now _
    (inr (refused_by (dump_cause before (g.D.Disk.state c.refuse.result.disk)) _ c.in-Err.fault tt
    (subst (λ d. dump_cause before (g.D.Disk.state d) c.in-Err.fault) disk c.in-Err.ensures.cause)
    c.refuse.ensures.writes c.refuse.ensures.nothing))
    refl (subst (λ d. IsUnwritten before (g.D.Disk.state d)) disk c.spell_file.ensures.unwritten)
    c.refuse.ensures.other
