use Rattle.std.proofs.Common.{refl}
use Rattle.layers.proofs.LayerLemmas.{both_nodes}
use Rattle.layers.proofs.layer.Layer.nodes.Goals as goal

pub returns-clause-nodes : goal.returns-clause-nodes
returns-clause-nodes c =
    both_nodes c.args.self.now c.self.inside.entries.items c.self.inside.satisfied c.self.inside.refuted c.self.invariant
    c.self.view_is c.nodes.result c.nodes-2.result _ c.nodes.ensures.prefixes c.nodes-2.ensures.prefixes refl
