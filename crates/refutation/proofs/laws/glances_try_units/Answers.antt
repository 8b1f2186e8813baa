use Rattle.std.proofs.lemmas.Bool.{both_ways}
use Rattle.refutation.specs.Leaf.{fixed_closes}
use Rattle.refutation.proofs.GlanceLemmas.{unit-from_one, pair-from_two}
use Rattle.refutation.proofs.laws.glances_try_units.Goals as goal

pub returns : goal.returns
returns c = record {
  one = λ key box full none no_unit closed. no_unit (unit-from_one key box full
      (λ fixed. both_ways (fixed_closes key box.bounds fixed.number) (none fixed.number fixed.below) fixed.holds)
      closed);
  two = λ key box no_pair closed. no_pair (pair-from_two key box closed);
}
