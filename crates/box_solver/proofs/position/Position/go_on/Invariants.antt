use Rattle.std.proofs.Common.{◌≡◌, length}
use Rattle.refutation.specs.Boxed.{HasShortSides}
use Rattle.box_solver.specs.Region.{MovesTrail}
use Rattle.box_solver.specs.Trail.{IsTrail, waiting}
use Rattle.box_solver.proofs.position.Position.go_on.Given as goal

-- what waits has stayed the same
abbrev pub invariant-loop-item : goal.invariant-loop-item
invariant-loop-item l = record {
  boxes : waiting l.region.trail l.self ≡ waiting l.initial.region.trail l.initial.self;
  trail : IsTrail l.self.bounds l.region.trail;
  short : HasShortSides l.self.bounds;
  moves : MovesTrail l.initial.region l.region;
}

abbrev pub decreases-loop-item : goal.decreases-loop-item
decreases-loop-item l = length l.region.trail
