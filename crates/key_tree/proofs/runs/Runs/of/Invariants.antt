use Rattle.key_tree.specs.Runs.{AreRuns}
use Rattle.key_tree.proofs.runs.Runs.of.Given as goal

-- the runs of the places so far
abbrev pub invariant-loop-place : goal.invariant-loop-place
invariant-loop-place l = AreRuns l.hashes l.runs l.place
