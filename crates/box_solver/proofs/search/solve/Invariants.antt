use Rattle.std.proofs.Common.{◌+◌, ◌-◌, ◌*◌, length}
use Rattle.box_solver.specs.Trail.{undecided}
use Rattle.box_solver.proofs.SearchLemmas.{StandsAt}
use Rattle.box_solver.proofs.search.solve.Given as goal

-- the search stands at the box at hand
abbrev pub invariant-boxes : goal.invariant-boxes
invariant-boxes l = StandsAt l.key l.budget l.initial.region l.region l.splits l.position

abbrev pub decreases-boxes : goal.decreases-boxes
decreases-boxes l = 2 * (l.budget - l.splits) + length (undecided l.region.trail l.position)
