use Rattle.std.proofs.Common.{◌+◌, ◌-◌, ◌*◌, length}
use Rattle.atom_implies.specs.Implies.{Covers}
use Rattle.key_tree.specs.Walks.{IsLeastSoFar, IsBehindFirst, Visits}
use Rattle.unsat_trie.proofs.walk.+walking.Given as goal

abbrev pub decreases-walk : goal.decreases-walk
decreases-walk g l = 2 * (length l.tree.now.places - l.place) + 1

abbrev pub decreases-look : goal.decreases-look
decreases-look g l = 2 * (length l.tree.now.places - l.kid.now.place) + 2

abbrev pub invariant-walk-loop-kid : goal.invariant-walk-loop-kid
invariant-walk-loop-kid g l = record {
  found : IsLeastSoFar l.tree l.place (λ rest. Covers l.asked rest) l.kid-index l.best l.found;
  cost : Visits (IsBehindFirst l.tree l.place l.kid-index) (length l.asked) l.initial.steps l.steps;
}
