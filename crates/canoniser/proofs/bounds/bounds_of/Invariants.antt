use Rattle.std.proofs.Common.{◌≡◌, ◌*◌, length}
use Rattle.canoniser.proofs.BoundLemmas.{AreBounds, FitBelow}
use Rattle.canoniser.proofs.bounds.bounds_of.Given as goal

-- the bounds of the variables so far
abbrev pub invariant-loop-v : goal.invariant-loop-v
invariant-loop-v l = record {
  two_each : length l.atoms.items ≡ 2 * l.v;
  fit : FitBelow l.c l.order l.v;
  just : AreBounds l.c l.order l.v l.atoms.items;
}
