use Rattle.std.proofs.Common.{◌≡◌, ◌≤◌, length, reverse}
use Rattle.devices.specs.Steps.{began, CanUndoAll}
use Rattle.devices.proofs.steps.undo_from.Given as goal

-- what is left of the steps leads back to where the call began
abbrev pub invariant-loop-rest : goal.invariant-loop-rest
invariant-loop-rest l = record {
  within : length l.rest ≤ length l.steps;
  can : CanUndoAll l.file.items (reverse l.rest);
  leads : began l.file.items (reverse l.rest) l.call ≡ began l.initial.file.items (reverse l.steps) l.call;
}

abbrev pub decreases-loop-rest : goal.decreases-loop-rest
decreases-loop-rest l = length l.rest
