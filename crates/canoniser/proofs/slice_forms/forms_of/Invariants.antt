use Rattle.canoniser.proofs.TurnLemmas.{AreKeyAtomsBefore}
use Rattle.canoniser.proofs.slice_forms.forms_of.Given as goal

-- the canonical atoms so far
abbrev pub invariant-loop-j : goal.invariant-loop-j
invariant-loop-j l = AreKeyAtomsBefore l.c l.s l.order l.j-index l.canonical.items
