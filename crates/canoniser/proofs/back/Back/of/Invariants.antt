use Rattle.std.proofs.Common.{◌≡◌, ℕ, ◌<◌, get_or}
use Rattle.canoniser.proofs.back.Back.of.Given as goal

-- none of the variables so far is it
abbrev pub invariant-loop-v : goal.invariant-loop-v
invariant-loop-v l = (k : ℕ) → k < l.v → ¬ (get_or l.self k 0 ≡ l.var)
