use Rattle.std.proofs.Common.{◌≡◌, ◌+◌, ◌≤◌}
use Rattle.lin_text.specs.Lines.{column}
use Rattle.lin_text.proofs.lines.column.Given as goal

-- the column of the place so far
abbrev pub invariant-loop-byte : goal.invariant-loop-byte
invariant-loop-byte l = record {
  so_far : l.column ≡ column l.byte-items l.byte-index;
  small : l.column ≤ 1 + l.byte-index;
}
