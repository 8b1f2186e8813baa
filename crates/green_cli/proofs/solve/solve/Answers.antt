use Rattle.std.specs.Prelude.{option_map}
use Rattle.green_cli.specs.Call.{change}
use Rattle.green_cli.proofs.CompleteLemmas.{solves_so}
use Rattle.green_cli.proofs.EarlyLemmas.{refused_early}
use Rattle.green_cli.proofs.EndLemmas.{ended}
use Rattle.std.proofs.Common.{refl, inr}
use Rattle.green_cli.proofs.solve.solve.Goals as goal

pub returns-in-Ok : goal.returns-in-Ok
returns-in-Ok g c =
    let files = c.files_hold.ensures in
    let store = option_map (λ name. name.now) c.args.store in
    solves_so g.D.Disk.state store c.args.budget _ c.spelled_has_no_fault.ensures c.sufficient_budgets_decide.ensures
    (ended files.fronts files.one files.frames files.room g.D.Disk.state c.args.budget c.in-Ok.session
    (change (g.S.Source.state c.args.source.now) (g.S.Source.state c.take_session.new.source))
    (change (g.K.Sink.state c.args.sink.now) (g.K.Sink.state c.solve_session.new.sink)) c.args.disk
    (change c.args.other c.solve_session.result.other) c.solve_session.result store c.in-Ok.ensures.read
    c.solve_session.ensures.ends)
    c.solve_session.ensures.other c.take_session.ensures.bounded

pub returns-in-Err : goal.returns-in-Err
returns-in-Err g c =
    let files = c.files_hold.ensures in
    let store = option_map (λ name. name.now) c.args.store in
    solves_so g.D.Disk.state store c.args.budget _ c.spelled_has_no_fault.ensures c.sufficient_budgets_decide.ensures
    (inr (refused_early g.D.Disk.state _ c.refuse.ensures.disk files.kept store c.in-Err.fault c.in-Err.ensures.read
    c.refuse.ensures.writes c.refuse.ensures.nothing))
    c.refuse.ensures.other c.take_session.ensures.bounded
