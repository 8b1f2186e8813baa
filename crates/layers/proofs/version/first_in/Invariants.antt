use Rattle.std.proofs.Common.{◌≡◌, ℕ, length, take}
use Rattle.cert_check.specs.Decides.{NoneDecides}
use Rattle.layers.specs.Layers.{joined, NoneBetween}
use Rattle.layers.specs.Tries.{LayersHaveNodes}
use Rattle.layers.proofs.NodeLemmas.{Spent}
use Rattle.layers.proofs.version.first_in.Given as goal

abbrev pub invariant-loop-layer : goal.invariant-loop-layer
invariant-loop-layer g l = record {
  front : l.start ≡ length (joined (take l.layer-index l.layers));
  none : NoneBetween (joined l.layers) l.asked l.n l.start;
  cost : NoneDecides (take l.n (joined l.layers)) l.asked → (nodes : ℕ) → LayersHaveNodes l.layers nodes
      → Spent l.layers l.layer-index nodes (length l.asked) l.initial.steps l.steps;
}
