use Rattle.std.proofs.Common.{take}
use Rattle.pipeline.proofs.KeyedLemmas.{IsLeastSoFar}
use Rattle.pipeline.proofs.slice_keys.least_false.Given as goal

-- the least of the atoms so far
abbrev pub invariant-loop-canonical : goal.invariant-loop-canonical
invariant-loop-canonical l = IsLeastSoFar (take l.canonical-index l.canonicals) l.least
