use Rattle.std.proofs.Common.{◌↔◌, ℕ, take}
use Rattle.std.specs.Prelude.{Contains}
use Rattle.slicer.specs.Names.{side_vars}
use Rattle.slicer.specs.VarSets.{Has}
use Rattle.slicer.proofs.named.set_of_terms.Given as goal

-- the set has the variables of the terms so far
abbrev pub invariant-loop-term : goal.invariant-loop-term
invariant-loop-term l = (v : ℕ) → Has l.set v ↔ Contains (side_vars (take l.term-index l.terms)) v
