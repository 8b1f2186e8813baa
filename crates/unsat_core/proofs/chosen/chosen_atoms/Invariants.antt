use Rattle.std.proofs.Common.{◌≡◌, take}
use Rattle.refutation.specs.Chosen.{chosen}
use Rattle.unsat_core.proofs.chosen.chosen_atoms.Given as goal

-- the chosen ones of the atoms so far
abbrev pub invariant-loop-place : goal.invariant-loop-place
invariant-loop-place l = l.kept.items ≡ chosen (take l.place l.atoms) (take l.place l.choice)
