use Rattle.std.proofs.Common.{◌+◌, ◌≤◌, length}
use Rattle.sat_trie.specs.Left.{places_in}
use Rattle.sat_trie.proofs.RestLemmas.{IsRestSoFar}
use Rattle.sat_trie.proofs.rest.left_without.Given as goal

-- what is left so far, and a step at most for each place that was left
abbrev pub invariant-loop-place : goal.invariant-loop-place
invariant-loop-place g l = record {
  rest : IsRestSoFar l.asked l.atom l.before l.rest l.fn.run.first l.place;
  cost : l.steps ≤ l.fn.steps + length (places_in l.before.words l.place);
}
