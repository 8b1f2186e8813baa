use Rattle.std.proofs.Common.{subst}
use Rattle.key_tree.specs.Tree.{PlainTree}
use Rattle.key_tree.proofs.FrontLemmas.{IsFrontSoFar, front_starts, front_more}
use Rattle.key_tree.proofs.tree.KeyTree.front.Goals as goal

pub loop-len-init : goal.loop-len-init
loop-len-init c =
    subst (λ (tree : PlainTree). IsFrontSoFar tree c.args.atoms.now 0 0) c.self.view_is
    (front_starts _ c.args.atoms.now c.self.invariant)

pub loop-len-preserved : goal.loop-len-preserved
loop-len-preserved c =
    front_more c.args.self.now c.args.atoms.now c.loop-len.place c.loop-len.len c.in-Ok.at c.kids.result.now _
    c.index-atoms-len.result c.kids.ensures.tree c.loop-len.invariant c.kids.ensures.kids (c.in-Ok.ensures {u = tt}).found
    c.loop-len-test.true c.index-atoms-len.is
