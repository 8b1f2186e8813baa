use Rattle.std.proofs.Common.{◌≡◌, map}
use Rattle.std.specs.List.{range_with_len}
use Rattle.lin_model.specs.Point.{AreSides}
use Rattle.refutation.specs.SearchOrder.{lower_or_zero}
use Rattle.box_solver.proofs.corner.lowest_corner.Given as goal

-- the lower sides so far
abbrev pub invariant-loop-var : goal.invariant-loop-var
invariant-loop-var l = record {
  values : l.values.items ≡ map (lower_or_zero l.bounds) (range_with_len 0 l.var);
  sides : AreSides l.values.items;
}
