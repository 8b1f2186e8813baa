use Rattle.std.proofs.Common.{◌≡◌, ◌+◌, ◌++◌, drop}
use Rattle.key_tree.specs.Growth.{places_of_chain}
use Rattle.key_tree.proofs.chain.chain_places.Given as goal

abbrev pub invariant-loop-count : goal.invariant-loop-count
invariant-loop-count l =
    l.places.items ++ places_of_chain (l.fn.next + l.count) (drop l.count l.fn.atoms) l.fn.number
    ≡ places_of_chain l.fn.next l.fn.atoms l.fn.number
