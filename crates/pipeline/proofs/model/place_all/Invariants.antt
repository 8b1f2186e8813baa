use Rattle.std.proofs.Common.{◌≡◌, length, take}
use Rattle.std.specs.List.{AllZip}
use Rattle.pipeline.specs.Asking.{IsPlaced}
use Rattle.pipeline.proofs.model.place_all.Given as goal

-- the variables of the slices so far have their values
abbrev pub invariant-loop-s : goal.invariant-loop-s
invariant-loop-s l = record {
  long : length l.values ≡ length l.fn.values;
  placed : AllZip (IsPlaced l.values) (take l.s l.slices) (take l.s l.replies);
}
