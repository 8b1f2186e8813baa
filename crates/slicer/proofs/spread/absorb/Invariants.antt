use Rattle.slicer.proofs.SpreadLemmas.{IsAbsorbed}
use Rattle.slicer.proofs.spread.absorb.Given as goal

-- each set so far that meets what was reached is taken in, and nothing else
abbrev pub invariant-loop-set : goal.invariant-loop-set
invariant-loop-set l = IsAbsorbed l.sets l.fn.reached l.set-index l.next
