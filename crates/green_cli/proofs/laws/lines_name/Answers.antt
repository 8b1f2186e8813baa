use Rattle.std.proofs.Common.{refl}
use Rattle.clap.proofs.OnLiterals.{clap_on_literals}
use Rattle.green_cli.specs.Words.{AreTaken, value_among}
use Rattle.green_cli.proofs.LineLemmas.{seven}
use Rattle.green_cli.proofs.laws.lines_name.Goals as goal

pub returns : goal.returns
unfolding clap_on_literals AreTaken value_among
returns c = record {
  before = record { first = refl; taken = refl; store_is = refl; budget = seven };
  behind = record { first = refl; taken = refl; store_is = refl; budget = seven };
  alone = record { first = refl; taken = refl; store_is = refl; budget = refl };
  empty = record { first = refl; taken = refl; store_is = refl; budget = refl };
  nothing_joined = record { first = refl; taken = refl; store_is = refl; budget = refl };
  dump = record { first = refl; taken = refl; store_is = refl };
  dump_joined = record { first = refl; taken = refl; store_is = refl };
  dump_empty = record { first = refl; taken = refl; store_is = refl };
}
