use Rattle.std.proofs.Common.{◌≡◌, [], ◌∷◌}
use Rattle.std.proofs.lemmas.Result.{on_ok_weaker}
use Rattle.refutation.specs.Bounds.{key_bounds}
use Rattle.refutation.specs.Box.{root_box}
use Rattle.refutation.proofs.EndingLemmas.{one_box, refutes-from, fails-from, ends-from, goes_on-from}
use Rattle.refutation.proofs.Soundness.{Refutes-no_point}
use Rattle.refutation.proofs.checker.refutes.Goals as goal
use Rattle.refutation.proofs.checker.refutes.Goals.{After-close_all}

root : (c : After-close_all) → c.new-walk.result ≡ root_box c.args.key.now ∷ []
root c = one_box c.new-walk.result c.of.result (key_bounds c.args.key.now) c.new-walk.ensures c.of.ensures.bounds

pub returns-clause-refuted : goal.returns-clause-refuted
returns-clause-refuted c =
    on_ok_weaker c.close_all.result (refutes-from c.args.key.now c.args.nodes.now c.args.terms.now _ (root c))
    c.close_all.ensures.closed

pub returns-clause-no_point : goal.returns-clause-no_point
returns-clause-no_point c =
    on_ok_weaker c.close_all.result
    (λ h. Refutes-no_point c.args.key.now c.args.nodes.now c.args.terms.now c.of.ensures.key
    (refutes-from c.args.key.now c.args.nodes.now c.args.terms.now _ (root c) h)) c.close_all.ensures.closed

pub returns-clause-node_fails : goal.returns-clause-node_fails
returns-clause-node_fails c = λ i e.
    fails-from c.args.key.now c.args.nodes.now c.args.terms.now _ (root c) i (c.close_all.ensures.node_fails i e)

pub returns-clause-tree_ends : goal.returns-clause-tree_ends
returns-clause-tree_ends c = λ e.
    ends-from c.args.key.now c.args.nodes.now c.args.terms.now _ (root c) (c.close_all.ensures.tree_ends e)

pub returns-clause-tree_goes_on : goal.returns-clause-tree_goes_on
returns-clause-tree_goes_on c = λ e.
    goes_on-from c.args.key.now c.args.nodes.now c.args.terms.now _ (root c) (c.close_all.ensures.tree_goes_on e)
