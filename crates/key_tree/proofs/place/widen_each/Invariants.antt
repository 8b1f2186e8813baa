use Rattle.key_tree.specs.Places.{AreKidsWidened}
use Rattle.key_tree.proofs.place.widen_each.Given as goal

-- the masks of the kids so far are wider
abbrev pub invariant-loop-k : goal.invariant-loop-k
invariant-loop-k l = AreKidsWidened l.fn.kids l.fn.place l.fn.behind l.fn.masks l.masks l.k
