use Rattle.std.proofs.Common.{◌≡◌, List, sym, subst}
use Rattle.box_solver.specs.Answer.{IsAnswer, IsModelTree, IsRefutingTree, IsSpentTree}
use Rattle.box_solver.specs.Region.{PlainTreeRegion}
use Rattle.box_solver.specs.declared.found.Found.{Found}
use Rattle.refutation.specs.Tree.{PlainTree}
use Rattle.refutation.specs.declared.leaf.LeafTerm.{LeafTerm}
use Rattle.refutation.specs.declared.node.Node.{Node}
use Rattle.refutation.specs.SearchTree.{IsOpenTree}
use Rattle.shared_store.specs.Solving.{IsEvidence, IsModelWithin}
use Rattle.shared_store.proofs.SolvingLemmas.{answer_of_blank, tree_of_blank}
use Rattle.shared_store.proofs.solving.search.Goals.{in-Model+in_ok-satisfied-in-Model}
use Rattle.shared_store.proofs.solving.search.Goals.{in-Refuted+in_ok-refuted-in-Refuted}
use Rattle.shared_store.proofs.solving.search.Goals.{in-Spent+in_ok-tree_in-in-Spent}
use Rattle.shared_store.proofs.solving.search.Goals as goal

pub returns : goal.returns
returns c =
    let answer = answer_of_blank c.args.key.now c.args.budget c.args.region.now c.solve.new.region c.solve.result
    c.requires.blank c.solve.ensures in
    let now : PlainTreeRegion = c.solve.new.region in
    record {
      evidence = elim c.match-solve.branch [
        | in-Model+in_ok-satisfied-in-Model w ↦
            let model : IsModelTree c.args.key.now c.args.budget w.in-Model.values.items now.nodes now.terms =
            subst (λ (f : Found). IsAnswer c.args.key.now c.args.budget f now.nodes now.terms) w.in-Model.is answer in
            let values : w.deref.result.now ≡ w.in-Model.values.items = w.deref.ensures.0 in
            let within : IsModelWithin c.args.budget c.args.key.now w.deref.result.now =
            subst (IsModelWithin c.args.budget c.args.key.now) (sym values)
            (record { nodes = now.nodes; terms = now.terms; tree = model }) in
            subst (IsEvidence c.args.budget c.args.key.now) (sym w.result-is)
            (w.in_ok-satisfied-in-Model.ensures {u = tt} c.args.budget within)
        | in-Refuted+in_ok-refuted-in-Refuted w ↦
            let refuting : IsRefutingTree c.args.key.now c.args.budget now.nodes now.terms =
            subst (λ (f : Found). IsAnswer c.args.key.now c.args.budget f now.nodes now.terms) w.in-Refuted.is answer in
            let given : IsRefutingTree c.args.key.now c.args.budget w.nodes.result.now w.terms.result.now =
            subst (λ (ns : List Node). IsRefutingTree c.args.key.now c.args.budget ns w.terms.result.now)
            (sym w.nodes.ensures)
            (subst (λ (ts : List LeafTerm). IsRefutingTree c.args.key.now c.args.budget now.nodes ts)
            (sym w.terms.ensures) refuting) in
            subst (IsEvidence c.args.budget c.args.key.now) (sym w.result-is)
            (w.in_ok-refuted-in-Refuted.ensures {u = tt} c.args.budget given)
        | in-Spent+in_ok-tree_in-in-Spent w ↦
            let spent : IsSpentTree c.args.key.now c.args.budget now.nodes now.terms =
            subst (λ (f : Found). IsAnswer c.args.key.now c.args.budget f now.nodes now.terms) w.in-Spent.is answer in
            subst (IsEvidence c.args.budget c.args.key.now) (sym w.result-is)
            (subst (λ (t : PlainTree). IsOpenTree c.args.key.now c.args.budget t.nodes t.terms)
            (sym (w.in_ok-tree_in-in-Spent.ensures {u = tt})) spent.open_tree)
      ];
      tree = tree_of_blank c.args.key.now c.args.budget c.args.region.now c.solve.new.region c.solve.result
          c.requires.blank c.solve.ensures;
    }
