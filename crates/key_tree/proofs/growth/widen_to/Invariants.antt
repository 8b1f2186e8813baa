use Rattle.std.proofs.Common.{◌∷◌}
use Rattle.key_tree.specs.Growth.{MayWiden}
use Rattle.key_tree.proofs.WidenLemmas.{IsWidening}
use Rattle.key_tree.proofs.growth.widen_to.Given as goal

abbrev pub invariant-loop-place : goal.invariant-loop-place
invariant-loop-place l = (may : MayWiden l.fn.branches (l.fn.root ∷ l.fn.others.items) l.fn.last)
    → IsWidening l.fn.branches (l.fn.root ∷ l.fn.others.items) (l.root ∷ l.others.items) may.next l.place l.mask

abbrev pub decreases-loop-place : goal.decreases-loop-place
decreases-loop-place l = l.place
