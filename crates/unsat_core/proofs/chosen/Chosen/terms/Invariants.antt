use Rattle.std.proofs.Common.{◌≡◌, take, map}
use Rattle.unsat_core.specs.Renumbered.{renumbered_term}
use Rattle.unsat_core.proofs.chosen.Chosen.terms.Given as goal

-- the terms so far
abbrev pub invariant-loop-term : goal.invariant-loop-term
invariant-loop-term l = l.renumbered.items ≡ map (renumbered_term l.self) (take l.term-index l.terms)
