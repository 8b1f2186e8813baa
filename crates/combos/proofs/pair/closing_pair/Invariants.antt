use Rattle.std.proofs.Common.{ℕ, ◌<◌}
use Rattle.combos.specs.Tried.{NoPairFrom}
use Rattle.combos.proofs.pair.closing_pair.Given as goal

-- there is no pair from one of those so far
abbrev pub invariant-loop-place : goal.invariant-loop-place
invariant-loop-place l =
    (k : ℕ) → k < l.place → NoPairFrom l.key (record { bounds = l.bounds; sides = l.sides }) k
