use Rattle.layers.specs.Layers.{NoneBetween}
use Rattle.layers.proofs.layer.Layer.scan_from.Given as goal

abbrev pub invariant-loop-place : goal.invariant-loop-place
invariant-loop-place g l = NoneBetween l.self l.key l.n l.place
