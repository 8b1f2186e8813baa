use Rattle.std.proofs.Common.{◌≡◌, ◌+◌, ◌++◌, ◌∷◌, [], List, drop, subst, sym, rules}
use Rattle.key_tree.specs.declared.branch.Branch.{Branch}
use Rattle.key_tree.specs.Growth.{branches_of_chain}
use Rattle.key_tree.proofs.ChainLemmas.{branch_written, branches_written}
use Rattle.key_tree.proofs.chain.chain_branches.Goals as goal

pub loop-count-preserved : goal.loop-count-preserved
loop-count-preserved c =
    let whole : List Branch = branches_of_chain c.args.from c.args.next c.args.atoms.now c.args.number in
    let written : c.push.new.self.items ≡ c.loop-count.branches.items
    ++ record { from = c.loop-count.from; atom = c.index-atoms-count.result; least = c.args.number } ∷ [] = search rules in
    subst (λ (branches : List Branch). branches ++ branches_of_chain (c.args.next + c.loop-count.count)
    (c.args.next + (c.loop-count.count + 1)) (drop (c.loop-count.count + 1) c.args.atoms.now) c.args.number ≡ whole)
    (sym written)
    (branch_written c.loop-count.branches.items whole c.loop-count.from c.args.next c.loop-count.count c.args.number
    c.args.atoms.now c.index-atoms-count.result c.loop-count-test.true c.index-atoms-count.is c.loop-count.invariant)

pub returns : goal.returns
returns c =
    branches_written c.loop-count.branches.items _ c.loop-count.from _ c.loop-count.count c.args.number c.args.atoms.now
    c.loop-count-test.false c.loop-count.invariant
