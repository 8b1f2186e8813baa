use Rattle.std.proofs.Common.{◌≡◌, ◌+◌, ◌++◌, List, ap, take, drop, get_or, pos, ◌∙◌}
use Rattle.std.proofs.lemmas.List.{drop_all, get_or_default}
use Rattle.refutation.specs.declared.leaf.LeafTerm.{LeafTerm}
use Rattle.refutation.specs.declared.node.Node.{Node}
use Rattle.refutation.specs.declared.node.Node.TheVariants.{Split}
use Rattle.green_cli.specs.DumpText.{nodes_text, own_terms}
use Rattle.green_cli.proofs.TextLemmas.{carry, done}
use Rattle.green_cli.proofs.DumpLemmas.{node_line, nodes_end, nodes_step}
use Rattle.green_cli.proofs.node_text.push_nodes.Goals as goal

pub loop-node-preserved : goal.loop-node-preserved
loop-node-preserved c =
    let nodes = c.args.nodes.now in
    let node : Node = get_or nodes c.loop-node.node-index (Split 0 (pos 0)) in
    let step = nodes_step nodes c.loop-node.terms.now c.loop-node.node-index node c.loop-node-test.true
    (get_or_default nodes c.loop-node.node-index _ _ c.loop-node-test.true) in
    let own : c.split_terms.result.0.now ≡ take (own_terms node) c.loop-node.terms.now =
    c.split_terms.ensures.own ∙ ap (λ n. take n c.loop-node.terms.now) c.own_terms.ensures in
    let rest : c.split_terms.result.1.now ≡ drop (own_terms node) c.loop-node.terms.now =
    c.split_terms.ensures.rest ∙ ap (λ n. drop n c.loop-node.terms.now) c.own_terms.ensures in
    let grows : c.push_line.new.out.items ≡ c.loop-node.out.items ++ node_line node (take (own_terms node)
    c.loop-node.terms.now) =
    (c.in_ok-push_line.ensures {u = tt}) ∙ ap (λ (ts : List LeafTerm). c.loop-node.out.items ++ node_line node ts) own
    in
    ap (λ (ts : List LeafTerm). c.push_line.new.out.items ++ nodes_text (drop (c.loop-node.node-index + 1) nodes) ts)
    rest
    ∙ carry _ _ _ _ _ _ c.loop-node.invariant step grows

pub returns : goal.returns
returns c = done _ _ _ c.loop-node.invariant
    (nodes_end _ _ (drop_all c.loop-node.node-index c.args.nodes.now c.loop-node-test.false))
