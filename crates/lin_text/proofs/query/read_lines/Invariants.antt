use Rattle.std.proofs.Common.{length, ◌-◌, ◌≤◌}
use Rattle.lin_text.specs.Lines.{StartsLine}
use Rattle.lin_text.proofs.LinesRead.{ReadTo}
use Rattle.lin_text.proofs.query.read_lines.Given as goal

-- the lines before the place were read
abbrev pub invariant-loop-at : goal.invariant-loop-at
invariant-loop-at l = record {
  within : l.at ≤ length l.bytes;
  read : ReadTo l.in_proof l.bytes l.start l.at l.query;
  starts : StartsLine l.bytes l.start → StartsLine l.bytes l.at;
}

abbrev pub decreases-loop-at : goal.decreases-loop-at
decreases-loop-at l = length l.bytes - l.at
