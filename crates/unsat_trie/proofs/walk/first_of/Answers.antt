use Rattle.std.proofs.Common.{ℕ, ◌^◌, List, length, subst}
use Rattle.lin_model.specs.KeyAtom.{PlainKeyAtom}
use Rattle.atom_implies.specs.Implies.{Covers}
use Rattle.key_tree.specs.FromRoot.{first_from_found, turned_cost}
use Rattle.key_tree.specs.Walks.{IsLeastFound, IsBehind, Visits}
use Rattle.unsat_trie.proofs.walk.first_of.Goals as goal

pub returns-clause-first : goal.returns-clause-first
returns-clause-first g c =
    first_from_found c.args.tree.now c.root.ensures.tree (λ (key : List PlainKeyAtom). Covers c.args.asked.now key)
    c.walk.result
    (subst (λ (place : ℕ). IsLeastFound c.args.tree.now place (λ rest. Covers c.args.asked.now rest) (2 ^ 32) c.walk.result)
    c.root.ensures.root c.walk.ensures.found) c.number_of.result c.number_of.ensures.found c.number_of.ensures.small

pub returns-clause-cost : goal.returns-clause-cost
returns-clause-cost g c nodes is =
    turned_cost c.args.steps.now c.walk.new.steps (length c.args.asked.now) nodes
    (c.visits_go_on.ensures.all c.args.tree.now (length c.args.asked.now) nodes c.args.steps.now c.walk.new.steps
    c.root.ensures.tree is
    (subst (λ (place : ℕ). Visits (IsBehind c.args.tree.now place) (length c.args.asked.now) c.args.steps.now
    c.walk.new.steps) c.root.ensures.root c.walk.ensures.cost))
