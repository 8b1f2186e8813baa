use Rattle.std.proofs.Common.{◌≡◌, take}
use Rattle.layers.specs.Layers.{joined}
use Rattle.layers.proofs.growth.entries_of.Given as goal

abbrev pub invariant-loop-layer : goal.invariant-loop-layer
invariant-loop-layer l = l.entries.items ≡ joined (take l.layer-index l.layers)
