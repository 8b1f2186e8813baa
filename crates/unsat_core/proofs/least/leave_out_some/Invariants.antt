use Rattle.unsat_core.specs.Steps.{AreTried}
use Rattle.unsat_core.proofs.least.leave_out_some.Given as goal

-- the atoms so far were tried
abbrev pub invariant-loop-atom : goal.invariant-loop-atom
invariant-loop-atom l = AreTried l.refuted l.fn.choice l.atom l.choice l.some
