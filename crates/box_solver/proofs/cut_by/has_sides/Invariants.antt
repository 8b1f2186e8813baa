use Rattle.std.proofs.Common.{◌≡◌, drop}
use Rattle.refutation.specs.Cut.{has_sides}
use Rattle.box_solver.proofs.cut_by.has_sides.Given as goal

-- the terms to come tell
abbrev pub invariant-loop-term : goal.invariant-loop-term
invariant-loop-term l = has_sides l.bounds (drop l.term-index l.form) ≡ has_sides l.bounds l.form
