use Rattle.std.proofs.Common.{◌≡◌, ◌≤◌, ◌-◌, length}
use Rattle.lin_text.specs.Lines.{line_from, StartsLine}
use Rattle.lin_text.proofs.lines.first_line.Given as goal

-- all lines so far are skipped
abbrev pub invariant-loop-start : goal.invariant-loop-start
invariant-loop-start l = record {
  within : l.start ≤ length l.bytes;
  ahead : l.fn.at ≤ l.start;
  same : line_from l.bytes l.start ≡ line_from l.bytes l.fn.at;
  keeps : StartsLine l.bytes l.fn.at → StartsLine l.bytes l.start;
}

abbrev pub decreases-loop-start : goal.decreases-loop-start
decreases-loop-start l = length l.bytes - l.start
