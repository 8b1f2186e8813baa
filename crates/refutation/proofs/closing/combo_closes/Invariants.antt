use Rattle.std.proofs.Common.{take}
use Rattle.refutation.proofs.LeafLemmas.{IsSummed}
use Rattle.refutation.proofs.closing.combo_closes.Given as goal

-- the sum is that of the terms so far
abbrev pub invariant-loop-term : goal.invariant-loop-term
invariant-loop-term l = IsSummed l.key l.sides (take l.term-index l.terms) l.sum
