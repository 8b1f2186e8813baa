use Rattle.std.proofs.Common.{◌≡◌, ◌*◌, ◌^◌, ◌≤◌, unsigned_abs, Some, drop}
use Rattle.refutation.specs.Bounds.{add_known, least}
use Rattle.refutation.proofs.value.least_within.Given as goal

-- the sum so far, and the least value of the terms to come
abbrev pub invariant-loop-term : goal.invariant-loop-term
invariant-loop-term l =
    (add_known (Some l.sum) (least (drop l.term-index l.terms) (record { lower = l.lo; upper = l.hi }))
    ≡ least l.terms (record { lower = l.lo; upper = l.hi })) × (unsigned_abs l.sum ≤ 2 ^ 114 * l.term-index)
