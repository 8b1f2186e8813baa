use Rattle.std.proofs.Common.{◌≡◌, ◌+◌, drop}
use Rattle.std.specs.List.{prefix_len}
use Rattle.lin_text.specs.Runs.{is_in}
use Rattle.lin_text.proofs.run.run_length.Given as goal

-- all so far belong to the run
abbrev pub invariant-loop-i : goal.invariant-loop-i
invariant-loop-i l = l.i + prefix_len (is_in l.run) (drop l.i l.bytes) ≡ prefix_len (is_in l.run) l.bytes
