use Rattle.std.proofs.Common.{ℕ, ◌<◌, get_or}
use Rattle.lin_model.specs.Truth.{AtomHolds}
use Rattle.lin_model.specs.declared.atom.Atom.{Atom}
use Rattle.lin_model.proofs.condition.atoms_hold.Given as goal

-- each atom so far holds
abbrev pub invariant-loop-atom : goal.invariant-loop-atom
invariant-loop-atom l = (k : ℕ) (atom : Atom) → k < l.atom-index → AtomHolds (get_or l.atoms k atom) l.values
