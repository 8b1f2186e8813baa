use Rattle.std.proofs.Common.{ℕ, ◌+◌, ◌*◌, ◌^◌, ◌≤◌, drop}
use Rattle.layers.specs.Tries.{LayersHaveNodes}
use Rattle.layers.proofs.version.nodes_of.Given as goal

-- the nodes so far, and those to come, are those of all
abbrev pub invariant-loop-layer : goal.invariant-loop-layer
invariant-loop-layer l = record {
  rest : (left : ℕ) → LayersHaveNodes (drop l.layer-index l.layers) left → LayersHaveNodes l.layers (l.nodes + left);
  few : l.nodes ≤ 2 ^ 33 * l.layer-index;
}
