use Rattle.std.proofs.Common.{◌≡◌, drop}
use Rattle.refutation.specs.SearchOrder.{first_failing}
use Rattle.box_solver.proofs.step_by.first_failing.Given as goal

-- the first that fails is among the atoms to come
abbrev pub invariant-loop-number : goal.invariant-loop-number
invariant-loop-number l =
    first_failing l.number (drop l.number l.key) l.values ≡ first_failing 0 l.key l.values
