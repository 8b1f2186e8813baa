use Rattle.unsat_core.specs.Steps.{Suffices, chosen_count}
use Rattle.unsat_core.proofs.least.shrink.Given as goal

-- what is left will do
abbrev pub invariant-loop : goal.invariant-loop
invariant-loop l = Suffices l.refuted l.choice

-- each pass but the last leaves fewer
abbrev pub decreases-loop : goal.decreases-loop
decreases-loop l = chosen_count l.choice
