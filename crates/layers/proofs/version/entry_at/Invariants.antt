use Rattle.std.proofs.Common.{◌≡◌, ◌+◌, length, take}
use Rattle.layers.specs.Layers.{joined}
use Rattle.layers.proofs.version.entry_at.Given as goal

abbrev pub invariant-loop-layer : goal.invariant-loop-layer
invariant-loop-layer l = length (joined (take l.layer-index l.layers)) + l.rest ≡ l.place
