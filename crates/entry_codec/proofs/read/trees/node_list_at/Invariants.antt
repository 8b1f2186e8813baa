use Rattle.std.proofs.Common.{◌≡◌, ◌-◌, []}
use Rattle.entry_codec.specs.Reading.{repeat}
use Rattle.entry_codec.proofs.TreeLemmas.{grown_at}
use Rattle.entry_codec.proofs.read.trees.node_list_at.Given as goal

abbrev pub invariant-loop : goal.invariant-loop
invariant-loop l =
    repeat grown_at (l.count - l.counter) (record { nodes = l.nodes.items; terms = l.terms.items }) l.rest
    ≡ repeat grown_at l.count (record { nodes = []; terms = [] }) l.bytes
