use Rattle.std.proofs.Common.{ℕ, ◌<◌, get_or}
use Rattle.lin_model.specs.Conditions.{AtomFits}
use Rattle.lin_model.specs.declared.atom.Atom.{Atom}
use Rattle.lin_model.proofs.limits.atoms_keep_limits.Given as goal

-- each atom so far is within its limits
abbrev pub invariant-loop-atom : goal.invariant-loop-atom
invariant-loop-atom l = (k : ℕ) (atom : Atom) → k < l.atom-index → AtomFits (get_or l.atoms k atom)
