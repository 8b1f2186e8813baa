use Rattle.std.proofs.Common.{inl}
use Rattle.green_cli.proofs.EndLemmas.{call_of}
use Rattle.green_cli.proofs.solve.solve_session.Goals as goal

pub returns-in-Ok-clause-ends : goal.returns-in-Ok-clause-ends
returns-in-Ok-clause-ends g c =
    inl (record {
      opened = c.in-Ok.opened;
      is_opened = (c.in-Ok.ensures {u = tt}).opened;
      ends = c.solve_opened.ensures.ends;
    })
