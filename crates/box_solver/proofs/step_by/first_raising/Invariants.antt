use Rattle.std.proofs.Common.{◌≡◌, drop}
use Rattle.refutation.specs.Cut.{cut}
use Rattle.refutation.specs.SearchOrder.{first_node, first_raising, raising_split}
use Rattle.box_solver.proofs.step_by.first_raising.Given as goal

-- the first node is one of the terms to come
abbrev pub invariant-loop-term : goal.invariant-loop-term
invariant-loop-term l =
    first_node (λ t. raising_split t.var (cut l.bounds l.atom t.var)) (drop l.term-index l.atom.form)
    ≡ first_raising l.bounds l.atom
