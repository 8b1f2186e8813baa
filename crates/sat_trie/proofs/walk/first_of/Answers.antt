use Rattle.std.proofs.Common.{◌≡◌, ℕ, ◌^◌, List, length, ap, subst, arith}
use Rattle.lin_model.specs.KeyAtom.{PlainKeyAtom}
use Rattle.atom_implies.specs.Implies.{Covers}
use Rattle.key_tree.specs.Walks.{IsLeastFound, IsBehind, Visits}
use Rattle.key_tree.specs.FromRoot.{first_from_found, turned_cost}
use Rattle.sat_trie.proofs.WalkLemmas.{found_from_own}
use Rattle.sat_trie.proofs.walk.first_of.Goals as goal

pub returns-clause-first : goal.returns-clause-first
returns-clause-first g c =
    let tree = c.args.tree.now in
    let asked = c.args.asked.now in
    let own = c.own_number.result in
    let found = c.enter.result in
    let at_root : IsLeastFound tree 0 (λ rest. Covers rest c.all-wanted.result) own found =
    subst (λ (place : ℕ). IsLeastFound tree place (λ rest. Covers rest c.all-wanted.result) own found) c.root.ensures.root
    c.enter.ensures.found in
    first_from_found tree c.root.ensures.tree (λ (key : List PlainKeyAtom). Covers key asked) found
    (found_from_own tree asked (2 ^ 32) own found c.own_number.ensures.small c.own_number.ensures.number
    (subst (λ (wanted : List PlainKeyAtom). IsLeastFound tree 0 (λ rest. Covers rest wanted) own found)
    c.all-wanted.ensures at_root))
    c.number_of.result c.number_of.ensures.found c.number_of.ensures.small

pub returns-clause-cost : goal.returns-clause-cost
returns-clause-cost g c nodes is =
    let each = length c.args.asked.now in
    let same : length c.all-wanted.result ≡ each = ap (λ (xs : List PlainKeyAtom). length xs) c.all-wanted.ensures in
    turned_cost c.args.steps.now c.enter.new.steps each nodes
    (c.visits_go_on.ensures.all c.args.tree.now each nodes c.args.steps.now c.enter.new.steps c.root.ensures.tree is
    (subst (λ (place : ℕ). Visits (IsBehind c.args.tree.now place) each c.args.steps.now c.enter.new.steps)
    c.root.ensures.root (c.enter.ensures.cost each (omega (arith, same)))))
