use Rattle.std.proofs.Common.{take}
use Rattle.slicer.specs.Names.{side_vars}
use Rattle.canoniser.specs.Numbering.{Gains}
use Rattle.canoniser.proofs.numbering.add_side.Given as goal

-- the variables of the terms so far are in
abbrev pub invariant-loop-term : goal.invariant-loop-term
invariant-loop-term l = Gains l.initial.order.items l.order.items (side_vars (take l.term-index l.terms))
