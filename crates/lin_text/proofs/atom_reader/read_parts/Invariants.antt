use Rattle.std.proofs.Common.{length, ◌-◌, ◌≤◌}
use Rattle.lin_text.specs.AtomSteps.{IsRead}
use Rattle.lin_text.proofs.atom_reader.read_parts.Given as goal

-- the tokens before the place were read
abbrev pub invariant-loop-state : goal.invariant-loop-state
invariant-loop-state l = record {
  within : l.to ≤ length l.bytes;
  read : IsRead l.in_proof l.bytes l.at l.terms.items l.state l.to;
}

abbrev pub decreases-loop-state : goal.decreases-loop-state
decreases-loop-state l = length l.bytes - l.to
