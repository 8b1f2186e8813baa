use Rattle.std.proofs.Common.{◌≡◌, false, true, refl}
use Rattle.clap.proofs.OnLiterals.{clap_on_literals}
use Rattle.green_cli.specs.Words.{AreTaken, value_among}
use Rattle.green_cli.proofs.LineLemmas.{dump_asked, solve_asked}
use Rattle.green_cli.proofs.laws.lines_name_nothing.Goals as goal

pub returns : goal.returns
unfolding clap_on_literals AreTaken value_among
returns c = record {
  unnamed = λ asked. let taken : false ≡ true = (dump_asked _ refl asked).1.taken in cc;
  budget = λ asked. let taken : false ≡ true = (dump_asked _ refl asked).1.taken in cc;
  ends = λ asked. let taken : false ≡ true = (solve_asked _ refl asked).2.taken in cc;
  twice = λ asked. let taken : false ≡ true = (solve_asked _ refl asked).2.taken in cc;
  dump_ends = λ asked. let taken : false ≡ true = (dump_asked _ refl asked).1.taken in cc;
  dump_twice = λ asked. let taken : false ≡ true = (dump_asked _ refl asked).1.taken in cc;
  dump_help = λ asked. let taken : false ≡ true = (dump_asked _ refl asked).1.taken in cc;
}
