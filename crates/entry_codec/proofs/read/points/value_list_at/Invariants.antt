use Rattle.std.proofs.Common.{◌≡◌, ◌-◌}
use Rattle.entry_codec.specs.Reading.{pushed_at, repeat, list_at}
use Rattle.entry_codec.specs.FieldReading.{value_at}
use Rattle.entry_codec.proofs.read.points.value_list_at.Given as goal

abbrev pub invariant-loop : goal.invariant-loop
invariant-loop l =
    repeat (pushed_at (λ before. value_at)) (l.count - l.counter) l.values.items l.rest ≡ list_at (λ before. value_at) l.count l.bytes
