use Rattle.std.proofs.Common.{◌≡◌, ℕ, ◌<◌, length, get_or}
use Rattle.unsat_core.specs.Renumbered.{new_number}
use Rattle.unsat_core.proofs.chosen.numbers_of.Given as goal

-- each atom so far has its number, and the count is that of the next
abbrev pub invariant-loop-is_chosen : goal.invariant-loop-is_chosen
invariant-loop-is_chosen l = record {
  long : length l.numbers.items ≡ l.is_chosen-index;
  each : (k : ℕ) → k < l.is_chosen-index → get_or l.numbers.items k 0 ≡ new_number l.choice k;
  last : l.count ≡ new_number l.choice l.is_chosen-index;
}
