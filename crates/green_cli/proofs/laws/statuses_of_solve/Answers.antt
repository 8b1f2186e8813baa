use Rattle.green_cli.proofs.StatusLemmas.{solve_statuses}
use Rattle.green_cli.proofs.laws.statuses_of_solve.Goals as goal

pub returns : goal.returns
returns g c = λ store budget call solves.
    solve_statuses g.D.Disk.state store budget call c.spelled_has_no_fault.ensures solves
