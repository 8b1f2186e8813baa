use Rattle.slicer.specs.Slices.{Lists}
use Rattle.slicer.specs.VarSets.{Has}
use Rattle.slicer.proofs.ListsLemmas.{Below}
use Rattle.slicer.proofs.members.vars_in.Given as goal

-- the variables so far that are in the set
abbrev pub invariant-loop-var : goal.invariant-loop-var
invariant-loop-var l = Lists (Below (Has l.set) l.var) l.vars.items
