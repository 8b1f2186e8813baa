use Rattle.std.proofs.Common.{◌≡◌, ℕ, ◌<◌, length, get_or}
use Rattle.lin_model.specs.declared.atom.Atom.{Atom}
use Rattle.slicer.specs.declared.var_set.VarSet.{VarSet}
use Rattle.slicer.specs.VarSets.{IsSetOf}
use Rattle.slicer.proofs.named.sets_of_atoms.Given as goal

-- a set for each atom so far
abbrev pub invariant-loop-atom : goal.invariant-loop-atom
invariant-loop-atom l = record {
  one_each : length l.sets.items ≡ l.atom-index;
  same : (k : ℕ) (atom : Atom) (set : VarSet) → k < l.atom-index
      → IsSetOf (get_or l.atoms k atom) (get_or l.sets.items k set);
}
