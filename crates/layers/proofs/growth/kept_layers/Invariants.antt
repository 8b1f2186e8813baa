use Rattle.std.proofs.Common.{◌≡◌, ◌+◌, ◌≤◌, length, take, drop}
use Rattle.layers.specs.Halving.{AreShortFrom}
use Rattle.layers.specs.Layers.{joined}
use Rattle.layers.proofs.growth.kept_layers.Given as goal

abbrev pub invariant-loop-front : goal.invariant-loop-front
invariant-loop-front l = record {
  within : length l.front ≤ length l.layers;
  prefix : l.front ≡ take (length l.front) l.layers;
  behind : l.behind ≡ length (joined (drop (length l.front) l.layers)) + 1;
  short : AreShortFrom (length l.front) l.layers;
}

abbrev pub decreases-loop-front : goal.decreases-loop-front
decreases-loop-front l = length l.front
