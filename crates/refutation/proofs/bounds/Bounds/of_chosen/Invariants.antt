use Rattle.std.proofs.Common.{drop}
use Rattle.refutation.specs.Chosen.{chosen}
use Rattle.refutation.proofs.BoundsLemmas.{LeadTo}
use Rattle.refutation.proofs.bounds.Bounds.of_chosen.Given as goal

-- the sides so far, with the chosen atoms to come
abbrev pub invariant-loop-place : goal.invariant-loop-place
invariant-loop-place l =
    LeadTo l.bounds (chosen (drop l.place l.key) (drop l.place l.choice)) (chosen l.key l.choice)
