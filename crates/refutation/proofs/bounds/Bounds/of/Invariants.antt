use Rattle.std.proofs.Common.{drop}
use Rattle.refutation.proofs.BoundsLemmas.{LeadTo}
use Rattle.refutation.proofs.bounds.Bounds.of.Given as goal

-- the sides so far, with the atoms to come
abbrev pub invariant-loop-atom : goal.invariant-loop-atom
invariant-loop-atom l = LeadTo l.bounds (drop l.atom-index l.atom-items) l.key
