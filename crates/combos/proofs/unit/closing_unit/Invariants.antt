use Rattle.std.proofs.Common.{◌≡◌, ℕ, ◌<◌, false}
use Rattle.refutation.specs.Glance.{unit_closes}
use Rattle.combos.proofs.unit.closing_unit.Given as goal

-- none of those so far does
abbrev pub invariant-loop-place : goal.invariant-loop-place
invariant-loop-place l =
    (k : ℕ) → k < l.place → unit_closes l.key (record { bounds = l.bounds; sides = l.sides }) k ≡ false
