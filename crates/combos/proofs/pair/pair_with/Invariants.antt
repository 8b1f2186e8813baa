use Rattle.std.proofs.Common.{ℕ, ◌<◌}
use Rattle.combos.specs.Tried.{NeitherCloses}
use Rattle.combos.proofs.pair.pair_with.Given as goal

-- none of those so far does
abbrev pub invariant-loop-place : goal.invariant-loop-place
invariant-loop-place l =
    (k : ℕ) → k < l.place → NeitherCloses l.key (record { bounds = l.bounds; sides = l.sides }) l.first.term k
