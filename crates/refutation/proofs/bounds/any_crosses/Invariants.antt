use Rattle.std.proofs.Common.{◌≡◌, ℕ, ◌<◌, false}
use Rattle.refutation.specs.Bounds.{crosses, lower_of, upper_of}
use Rattle.refutation.proofs.bounds.any_crosses.Given as goal

-- no variable so far
abbrev pub invariant-loop-var : goal.invariant-loop-var
invariant-loop-var l =
    (v : ℕ) → v < l.var → crosses (lower_of (record { lower = l.lo; upper = l.hi }) v)
    (upper_of (record { lower = l.lo; upper = l.hi }) v) ≡ false
