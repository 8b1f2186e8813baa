use Rattle.std.proofs.Common.{◌≡◌, ◌-◌}
use Rattle.entry_codec.specs.Reading.{pushed_at, repeat, list_at}
use Rattle.entry_codec.specs.AtomReading.{term_at}
use Rattle.entry_codec.proofs.read.atoms.term_list_at.Given as goal

abbrev pub invariant-loop : goal.invariant-loop
invariant-loop l =
    repeat (pushed_at (λ before. term_at)) (l.count - l.counter) l.terms.items l.rest ≡ list_at (λ before. term_at) l.count l.bytes
