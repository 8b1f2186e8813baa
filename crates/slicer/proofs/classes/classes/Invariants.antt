use Rattle.slicer.specs.VarSets.{Has}
use Rattle.slicer.proofs.ClassLemmas.{AreClassesBelow}
use Rattle.slicer.proofs.classes.classes.Given as goal

-- the classes of the variables so far
abbrev pub invariant-loop-var : goal.invariant-loop-var
invariant-loop-var l = AreClassesBelow l.c l.var l.slices.items (Has l.seen)
