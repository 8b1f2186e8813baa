use Rattle.std.proofs.Common.{[], take}
use Rattle.box_solver.specs.Region.{Adds, KeepsTrail}
use Rattle.box_solver.proofs.write.push_combo.Given as goal

-- the terms so far were appended
abbrev pub invariant-loop-term : goal.invariant-loop-term
invariant-loop-term l = record {
  adds : Adds l.initial.region l.region [] (take l.term-index l.terms);
  trail : KeepsTrail l.initial.region l.region;
}
