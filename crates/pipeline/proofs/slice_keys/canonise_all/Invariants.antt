use Rattle.std.proofs.Common.{take}
use Rattle.std.specs.List.{AllZip}
use Rattle.canoniser.specs.Answers.{Canonises}
use Rattle.pipeline.proofs.slice_keys.canonise_all.Given as goal

-- what the slices so far come to
abbrev pub invariant-loop-slice : goal.invariant-loop-slice
invariant-loop-slice l = AllZip (Canonises l.query) (take l.slice-index l.slices) l.canonicals.items
