use Rattle.std.proofs.Common.{◌≡◌, ◌*◌, ◌^◌, ◌≤◌, ◌+ℤ◌, unsigned_abs, drop}
use Rattle.refutation.specs.Leaf.{coefficient_of}
use Rattle.box_solver.proofs.cut_by.coefficient.Given as goal

-- the sum so far, and the coefficient in the terms to come
abbrev pub invariant-loop-term : goal.invariant-loop-term
invariant-loop-term l =
    (l.sum +ℤ coefficient_of (drop l.term-index l.form) l.var ≡ coefficient_of l.form l.var)
    × (unsigned_abs l.sum ≤ 2 ^ 40 * l.term-index)
