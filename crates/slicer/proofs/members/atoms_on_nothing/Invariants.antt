use Rattle.std.specs.List.{HoldsAt}
use Rattle.slicer.specs.Slices.{Lists}
use Rattle.slicer.specs.VarSets.{IsVoid}
use Rattle.slicer.proofs.ListsLemmas.{Below}
use Rattle.slicer.proofs.members.atoms_on_nothing.Given as goal

-- the sets so far that have no variable
abbrev pub invariant-loop-j : goal.invariant-loop-j
invariant-loop-j l = Lists (Below (HoldsAt IsVoid l.sets) l.j) l.atoms.items
