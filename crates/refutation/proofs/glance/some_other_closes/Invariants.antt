use Rattle.std.proofs.Common.{ℕ, ◌<◌, IsTrue}
use Rattle.refutation.specs.Glance.{pair_closes}
use Rattle.refutation.proofs.glance.some_other_closes.Given as goal

-- none of those so far does
abbrev pub invariant-loop-other : goal.invariant-loop-other
invariant-loop-other l =
    (k : ℕ) → k < l.other → IsTrue (pair_closes l.key (record { bounds = l.bounds; sides = l.sides }) l.fn.place k) → ⊥
