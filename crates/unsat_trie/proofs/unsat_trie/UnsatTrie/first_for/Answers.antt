use Rattle.std.proofs.Common.{ℕ, ◌+◌, ◌*◌, ◌≤◌, List, length, subst}
use Rattle.atom_implies.specs.Implies.{Covers}
use Rattle.key_tree.specs.Held.{HavePrefixes, IsLeastOf}
use Rattle.key_tree.specs.Tree.{Pair}
use Rattle.unsat_trie.proofs.unsat_trie.UnsatTrie.first_for.Goals as goal

pub returns-clause-first : goal.returns-clause-first
returns-clause-first g c =
    subst (λ (pairs : List Pair). IsLeastOf (λ held. Covers c.args.asked.now held) pairs c.first_of.result)
    c.self.view_is c.first_of.ensures.first

pub returns-clause-cost : goal.returns-clause-cost
returns-clause-cost g c nodes prefixes =
    subst (λ (n : ℕ). c.first_of.new.steps ≤ c.args.steps.now + n * length c.args.asked.now)
    (c.prefixes_are_counted.ensures c.args.self.now c.nodes-nodes.result nodes
    (subst (λ (pairs : List Pair). HavePrefixes pairs c.nodes-nodes.result) c.self.view_is c.nodes-nodes.ensures.prefixes)
    prefixes)
    (c.first_of.ensures.cost c.nodes-nodes.result c.nodes-nodes.ensures.count)
