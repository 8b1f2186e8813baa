use Rattle.std.proofs.Common.{take}
use Rattle.std.specs.List.{filter_map, flat_map, slice_get}
use Rattle.slicer.specs.Names.{atom_vars}
use Rattle.canoniser.specs.Numbering.{Gains}
use Rattle.canoniser.proofs.numbering.add_atoms.Given as goal

-- the variables of the atoms so far are in
abbrev pub invariant-loop-j : goal.invariant-loop-j
invariant-loop-j l =
    Gains l.initial.order.items l.order.items
    (flat_map atom_vars (filter_map (λ j. slice_get l.atoms j) (take l.j-index l.numbers)))
