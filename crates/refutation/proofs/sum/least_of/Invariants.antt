use Rattle.std.proofs.Common.{◌*◌, ◌^◌, ◌≤◌, unsigned_abs}
use Rattle.refutation.proofs.UsedLemmas.{IsSummedTo}
use Rattle.refutation.proofs.sum.least_of.Given as goal

-- the sum so far, and the bits of the variables to come
abbrev pub invariant-loop-turn : goal.invariant-loop-turn
invariant-loop-turn l = record {
  at : IsSummedTo l.coefs l.bounds l.used l.rest l._turn l.sum;
  size : unsigned_abs l.sum ≤ 2 ^ 114 * l._turn;
}
