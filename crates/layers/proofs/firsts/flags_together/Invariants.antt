use Rattle.std.proofs.Common.{◌≡◌, take}
use Rattle.layers.specs.Firsts.{flags_of}
use Rattle.layers.proofs.firsts.flags_together.Given as goal

abbrev pub invariant-loop-layer : goal.invariant-loop-layer
invariant-loop-layer l = l.flags.items ≡ flags_of (take l.layer-index l.firsts)
