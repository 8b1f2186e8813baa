use Rattle.std.proofs.Common.{◌≡◌, ◌<◌, drop}
use Rattle.refutation.specs.SearchOrder.{widest, widest_from}
use Rattle.box_solver.proofs.step_by.widest.Given as goal

-- the terms to come give the widest, beginning with the best so far
abbrev pub invariant-loop-term : goal.invariant-loop-term
invariant-loop-term l =
    (widest_from l.bounds l.best (drop l.term-index l.form) ≡ widest l.bounds l.form) × (l.best < 64)
