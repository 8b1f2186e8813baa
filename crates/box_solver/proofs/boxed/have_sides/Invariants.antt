use Rattle.std.proofs.Common.{ℕ, ◌<◌}
use Rattle.refutation.specs.Boxed.{HasBothSides}
use Rattle.box_solver.proofs.boxed.have_sides.Given as goal

-- the variables so far have both sides
abbrev pub invariant-loop-var : goal.invariant-loop-var
invariant-loop-var l = (v : ℕ) → v < l.var → HasBothSides l.bounds v
