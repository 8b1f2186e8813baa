use Rattle.std.proofs.Common.{◌≡◌, ◌+◌, [], length}
use Rattle.box_solver.specs.Region.{Adds}
use Rattle.box_solver.proofs.write.empty_trail.Given as goal

-- what is off the trail, there is room for
abbrev pub invariant-loop : goal.invariant-loop
invariant-loop l = record {
  adds : Adds l.initial.region l.region [] [];
  room : length l.region.trail + l.region.spare_trail ≡ length l.initial.region.trail + l.initial.region.spare_trail;
}

abbrev pub decreases-loop : goal.decreases-loop
decreases-loop l = length l.region.trail
