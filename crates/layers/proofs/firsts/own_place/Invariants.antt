use Rattle.std.proofs.Common.{◌≡◌, length, take}
use Rattle.layers.specs.Layers.{joined}
use Rattle.layers.proofs.FlagLemmas.{NoneHas}
use Rattle.layers.proofs.firsts.own_place.Given as goal

-- no entry of the layers so far has the key
abbrev pub invariant-loop-number : goal.invariant-loop-number
invariant-loop-number l = record {
  front : l.start ≡ length (joined (take l.number l.layers));
  none : NoneHas l.layers l.key l.start;
}
