use Rattle.key_tree.proofs.FrontLemmas.{IsFrontSoFar}
use Rattle.key_tree.proofs.tree.KeyTree.front.Given as goal

abbrev pub invariant-loop-len : goal.invariant-loop-len
invariant-loop-len l = IsFrontSoFar l.fn.self l.fn.atoms l.place l.len
