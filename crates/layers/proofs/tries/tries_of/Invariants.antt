use Rattle.std.proofs.Common.{◌≡◌, take}
use Rattle.std.specs.Prelude.{All}
use Rattle.cert_check.specs.Decides.{IsChecked}
use Rattle.layers.specs.Tries.{satisfied_keys, cores}
use Rattle.layers.proofs.tries.tries_of.Given as goal

-- the tries of the entries so far
abbrev pub invariant-loop-place : goal.invariant-loop-place
invariant-loop-place l = record {
  satisfied : l.tries.satisfied ≡ satisfied_keys 0 (take l.place l.entries);
  refuted : l.tries.refuted ≡ cores 0 (take l.place l.entries);
  checked : All IsChecked (take l.place l.entries);
}
