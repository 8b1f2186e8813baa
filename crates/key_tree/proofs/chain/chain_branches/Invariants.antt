use Rattle.std.proofs.Common.{◌≡◌, ◌+◌, ◌++◌, drop}
use Rattle.key_tree.specs.Growth.{branches_of_chain}
use Rattle.key_tree.proofs.chain.chain_branches.Given as goal

abbrev pub invariant-loop-count : goal.invariant-loop-count
invariant-loop-count l =
    l.branches.items ++ branches_of_chain l.from (l.fn.next + l.count) (drop l.count l.fn.atoms) l.fn.number
    ≡ branches_of_chain l.fn.from l.fn.next l.fn.atoms l.fn.number
