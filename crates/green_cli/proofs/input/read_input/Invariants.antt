use Rattle.std.proofs.Common.{◌≡◌, ◌≤◌, length}
use Rattle.green_cli.specs.Input.{Consumes, max_input}
use Rattle.green_cli.proofs.input.read_input.Given as goal

-- what was taken so far, at least a byte a turn, and not too much
abbrev pub invariant-loop-turn : goal.invariant-loop-turn
invariant-loop-turn g l = record {
  taken : Consumes (g.S.Source.state l.fn.source).left (g.S.Source.state l.source).left l.bytes.items;
  turns : l._turn ≤ length l.bytes.items;
  short : length l.bytes.items ≤ max_input;
  unfailed : (g.S.Source.state l.source).faults ≡ (g.S.Source.state l.fn.source).faults;
}
