use Rattle.std.proofs.Common.{◌≡◌, ◌*◌, ◌^◌, ◌≤◌, unsigned_abs, Some, drop}
use Rattle.refutation.specs.Bounds.{add_known, least}
use Rattle.refutation.specs.Cut.{others}
use Rattle.refutation.proofs.value.least_besides.Given as goal

-- the sum so far, and the least value of the terms to come on other variables
abbrev pub invariant-loop-term : goal.invariant-loop-term
invariant-loop-term l =
    (add_known (Some l.sum) (least (others (drop l.term-index l.terms) l.var) (record { lower = l.lo; upper = l.hi }))
    ≡ least (others l.terms l.var) (record { lower = l.lo; upper = l.hi })) × (unsigned_abs l.sum ≤ 2 ^ 114 * l.term-index)
