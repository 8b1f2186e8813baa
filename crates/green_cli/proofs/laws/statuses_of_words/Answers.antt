use Rattle.green_cli.proofs.WordStatusLemmas.{words_statuses}
use Rattle.green_cli.proofs.laws.statuses_of_words.Goals as goal

pub returns : goal.returns
returns g c = λ words call does.
    words_statuses g.D.Disk.state words call c.spelled_has_no_fault.ensures c.commands_are_unique.ensures does
