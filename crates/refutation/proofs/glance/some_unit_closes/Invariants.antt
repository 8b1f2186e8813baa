use Rattle.std.proofs.Common.{ℕ, ◌<◌, IsTrue}
use Rattle.refutation.specs.Glance.{unit_closes}
use Rattle.refutation.proofs.glance.some_unit_closes.Given as goal

-- none of those so far does
abbrev pub invariant-loop-place : goal.invariant-loop-place
invariant-loop-place l =
    (k : ℕ) → k < l.place → IsTrue (unit_closes l.key (record { bounds = l.bounds; sides = l.sides }) k) → ⊥
