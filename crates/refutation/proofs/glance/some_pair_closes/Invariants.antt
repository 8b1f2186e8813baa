use Rattle.std.proofs.Common.{ℕ, ◌<◌}
use Rattle.refutation.specs.Glance.{SomeOtherCloses}
use Rattle.refutation.proofs.glance.some_pair_closes.Given as goal

-- none of those so far does
abbrev pub invariant-loop-place : goal.invariant-loop-place
invariant-loop-place l =
    (k : ℕ) → k < l.place → SomeOtherCloses l.key (record { bounds = l.bounds; sides = l.sides }) k → ⊥
