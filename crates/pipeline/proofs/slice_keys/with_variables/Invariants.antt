use Rattle.std.proofs.Common.{◌≡◌}
use Rattle.std.specs.List.{All}
use Rattle.pipeline.specs.Keyed.{KeepsKeyLimits, keys_in}
use Rattle.pipeline.proofs.slice_keys.with_variables.Given as goal

-- the keys so far
abbrev pub invariant-loop-canonical : goal.invariant-loop-canonical
invariant-loop-canonical l = record {
  keys : l.keys.items ≡ keys_in l.yielded;
  limits : All KeepsKeyLimits l.keys.items;
}
