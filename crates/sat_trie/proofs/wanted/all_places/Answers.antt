use Rattle.std.proofs.Common.{◌≤◌, ℕ, length, subst, arith}
use Rattle.sat_trie.specs.Left.{IsFull}
use Rattle.sat_trie.proofs.WantedLemmas.{all_left, all_atoms}
use Rattle.sat_trie.proofs.wanted.all_places.Goals as goal

full : (c : goal.After-all) → IsFull (length c.args.asked.now) c.all_needs.result c.all.result
full c = subst (λ (n : ℕ). IsFull n c.all_needs.result c.all.result) c.count.ensures.count c.all.ensures

few : (c : goal.After-all) → length c.args.asked.now ≤ 384
few c = omega (arith, c.count.ensures.count, c.count.ensures.few)

pub returns-clause-left : goal.returns-clause-left
returns-clause-left c = all_left c.args.asked.now c.all.result c.all_needs.result (full c) (few c) c.all_needs.ensures.least

pub returns-clause-all : goal.returns-clause-all
returns-clause-all c = all_atoms c.args.asked.now c.all.result c.all_needs.result (full c) (few c) c.all_needs.ensures.least
