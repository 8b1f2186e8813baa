use Rattle.std.proofs.Common.{◌≡◌, ◌-◌}
use Rattle.entry_codec.specs.Reading.{pushed_at, repeat}
use Rattle.entry_codec.specs.NodeReading.{leaf_term_at}
use Rattle.entry_codec.proofs.read.nodes.push_leaf_terms.Given as goal

abbrev pub invariant-loop : goal.invariant-loop
invariant-loop l =
    repeat (pushed_at (λ before. leaf_term_at)) (l.count - l.counter) l.terms.items l.rest
    ≡ repeat (pushed_at (λ before. leaf_term_at)) l.count l.initial.terms.items l.bytes
