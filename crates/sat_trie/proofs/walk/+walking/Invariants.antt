use Rattle.std.proofs.Common.{ℕ, ◌+◌, ◌-◌, ◌*◌, ◌≤◌, length}
use Rattle.key_tree.specs.Walks.{Meets, covering, IsLeastSoFar, IsBehindFirst, Visits}
use Rattle.sat_trie.proofs.walk.+walking.Given as goal

-- a kid's place is later than the place where its branch begins
abbrev pub decreases-walk : goal.decreases-walk
decreases-walk g l = 3 * (length l.tree.now.places - l.place)

abbrev pub decreases-look : goal.decreases-look
decreases-look g l = 3 * (length l.tree.now.places - l.kid.now.place) + 2

abbrev pub decreases-enter : goal.decreases-enter
decreases-enter g l = 3 * (length l.tree.now.places - l.place) + 1

-- what was found so far, and the steps that were taken for it
abbrev pub invariant-walk-loop-k : goal.invariant-walk-loop-k
invariant-walk-loop-k g l = record {
  found : IsLeastSoFar l.tree l.place (Meets (covering l.wanted)) l.k l.best l.found;
  cost : (each : ℕ) → length l.wanted ≤ each → Visits (IsBehindFirst l.tree l.place l.k) each l.initial.steps l.steps;
}
