use Rattle.slicer.proofs.classes.slice_of.Goals as goal

pub returns-clause-vars : goal.returns-clause-vars
returns-clause-vars c = rw c.new.ensures c.in_ok-vars.ensures

pub returns-clause-atoms : goal.returns-clause-atoms
returns-clause-atoms c = rw c.new.ensures c.in_ok-atoms.ensures
