use Rattle.std.proofs.Common.{refl}
use Rattle.clap.proofs.OnLiterals.{clap_on_literals}
use Rattle.green_cli.specs.Words.{AreTaken, value_among}
use Rattle.green_cli.proofs.LineLemmas.{seven, also_seven}
use Rattle.green_cli.proofs.laws.lines_ask.Goals as goal

pub returns : goal.returns
unfolding clap_on_literals AreTaken value_among
returns c = record {
  alone = record { first = refl; taken = refl; store_is = refl; budget = refl };
  apart = record { first = refl; taken = refl; store_is = refl; budget = seven };
  joined = record { first = refl; taken = refl; store_is = refl; budget = also_seven };
}
