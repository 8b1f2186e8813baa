use Rattle.std.proofs.Common.{ℕ, ◌<◌, IsTrue}
use Rattle.refutation.specs.Leaf.{fixed_closes}
use Rattle.refutation.proofs.glance.some_fixed_closes.Given as goal

-- none of those so far does
abbrev pub invariant-loop-number : goal.invariant-loop-number
invariant-loop-number l = (k : ℕ) → k < l.number → IsTrue (fixed_closes l.key l.bounds k) → ⊥
