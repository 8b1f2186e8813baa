use Rattle.std.proofs.Common.{◌≡◌, false, true, arith, refl}
use Rattle.clap.proofs.OnLiterals.{clap_on_literals}
use Rattle.green_cli.specs.Words.{AreTaken, value_among}
use Rattle.green_cli.proofs.LineLemmas.{some_asked, solve_asked}
use Rattle.green_cli.proofs.laws.lines_ask_nothing.Goals as goal

pub returns : goal.returns
unfolding clap_on_literals AreTaken value_among
returns c = record {
  none = λ asked. some_asked _ asked refl;
  zero = λ asked. let budget = (solve_asked _ refl asked).2.budget in absurd
      (omega (arith, budget.number.value, budget.some));
  twice = λ asked. let taken : false ≡ true = (solve_asked _ refl asked).2.taken in cc;
  help = λ asked. let taken : false ≡ true = (solve_asked _ refl asked).2.taken in cc;
}
