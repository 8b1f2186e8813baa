use Rattle.std.specs.List.{HoldsAt}
use Rattle.slicer.specs.Slices.{Lists}
use Rattle.slicer.specs.VarSets.{Meet}
use Rattle.slicer.proofs.ListsLemmas.{Below}
use Rattle.slicer.proofs.members.atoms_on.Given as goal

-- the sets so far that meet the variables
abbrev pub invariant-loop-j : goal.invariant-loop-j
invariant-loop-j l = Lists (Below (HoldsAt (λ set. Meet set l.vars) l.sets) l.j) l.atoms.items
