use Rattle.green_cli.proofs.DumpStatusLemmas.{dump_statuses}
use Rattle.green_cli.proofs.laws.statuses_of_dump.Goals as goal

pub returns : goal.returns
returns g c = λ name call dumps. dump_statuses g.D.Disk.state name call dumps
