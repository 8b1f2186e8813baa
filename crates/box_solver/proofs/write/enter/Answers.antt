use Rattle.std.proofs.Common.{subst, arith}
use Rattle.refutation.specs.declared.node.Node.{Node}
use Rattle.box_solver.specs.Steps.{SplitsFairly}
use Rattle.box_solver.proofs.HalvesLemmas.{sides-fewer}
use Rattle.box_solver.proofs.write.enter.Goals as goal

pub ne_left-requires-clause-few : goal.ne_left-requires-clause-few
ne_left-requires-clause-few c =
    let split = c.requires.split in
    let fewer = (sides-fewer split.key c.args.position.now c.in-NeSplit.atom
    (subst (λ (n : Node). SplitsFairly split.key c.args.position.now n) c.in-NeSplit.is split.fair) split.search_box).1 in
    omega (arith, fewer, split.is_key.fits.few)
