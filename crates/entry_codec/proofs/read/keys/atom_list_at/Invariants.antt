use Rattle.std.proofs.Common.{◌≡◌, ◌-◌}
use Rattle.entry_codec.specs.Reading.{pushed_at, repeat, list_at}
use Rattle.entry_codec.specs.AtomReading.{atom_at}
use Rattle.entry_codec.proofs.read.keys.atom_list_at.Given as goal

abbrev pub invariant-loop : goal.invariant-loop
invariant-loop l =
    repeat (pushed_at atom_at) (l.count - l.counter) l.atoms.items l.rest ≡ list_at atom_at l.count l.bytes
