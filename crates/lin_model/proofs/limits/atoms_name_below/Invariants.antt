use Rattle.std.proofs.Common.{ℕ, ◌<◌, get_or}
use Rattle.lin_model.specs.Conditions.{AtomNamesBelow}
use Rattle.lin_model.specs.declared.atom.Atom.{Atom}
use Rattle.lin_model.proofs.limits.atoms_name_below.Given as goal

-- each atom so far names only variables below the count
abbrev pub invariant-loop-atom : goal.invariant-loop-atom
invariant-loop-atom l = (k : ℕ) (atom : Atom) → k < l.atom-index → AtomNamesBelow l.count (get_or l.atoms k atom)
