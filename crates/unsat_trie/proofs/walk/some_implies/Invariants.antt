use Rattle.std.proofs.Common.{ℕ, ◌+◌, ◌<◌, ◌≤◌, get_or}
use Rattle.atom_implies.specs.Implies.{Implies}
use Rattle.key_tree.specs.Asked.{no_atom}
use Rattle.unsat_trie.proofs.walk.some_implies.Given as goal

-- none of the run so far implies the atom, and a step at most was taken for each place
abbrev pub invariant-loop-place : goal.invariant-loop-place
invariant-loop-place g l = record {
  none : (k : ℕ) → l.fn.run.first ≤ k → k < l.place → ¬ Implies (get_or l.asked k no_atom) l.atom;
  cost : l.steps ≤ l.initial.steps + l.place;
}
