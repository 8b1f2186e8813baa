use Rattle.std.proofs.Common.{take}
use Rattle.canoniser.specs.Numbering.{Gains}
use Rattle.canoniser.proofs.numbering.add_all.Given as goal

-- the variables so far are in
abbrev pub invariant-loop-var : goal.invariant-loop-var
invariant-loop-var l = Gains l.initial.order.items l.order.items (take l.var-index l.vars)
