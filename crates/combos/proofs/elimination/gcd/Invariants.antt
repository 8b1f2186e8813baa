use Rattle.combos.proofs.elimination.gcd.Given as goal

abbrev pub decreases-loop-y : goal.decreases-loop-y
decreases-loop-y l = l.y
