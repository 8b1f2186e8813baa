use Rattle.std.proofs.Common.{take}
use Rattle.std.specs.List.{list_any}
use Rattle.unsat_core.specs.Named.{Raises}
use Rattle.unsat_core.specs.Renumbered.{on_names}
use Rattle.unsat_core.proofs.named.raise_by_terms.Given as goal

-- the flags of what the terms so far name are raised
abbrev pub invariant-loop-term : goal.invariant-loop-term
invariant-loop-term l =
    Raises (λ i. list_any (λ term. on_names i term.on) (take l.term-index l.terms)) l.fn.flags l.flags
