use Rattle.std.proofs.Common.{◌≡◌, ℕ, ◌<◌, false}
use Rattle.refutation.specs.Leaf.{fixed_closes}
use Rattle.combos.proofs.fixed.closing_fixed.Given as goal

-- none of those so far does
abbrev pub invariant-loop-number : goal.invariant-loop-number
invariant-loop-number l = (k : ℕ) → k < l.number → fixed_closes l.key l.bounds k ≡ false
