use Rattle.std.proofs.Common.{◌+◌, List, ℕ, subst, sym, arith}
use Rattle.key_tree.specs.Places.{AreKidsWidened}
use Rattle.key_tree.proofs.KidMaskLemmas.{widened_more, widened_other}
use Rattle.key_tree.proofs.place.widen_each.Goals.{then-kid-place, else-kid-place}
use Rattle.key_tree.proofs.place.widen_each.Goals as goal

pub loop-k-preserved : goal.loop-k-preserved
loop-k-preserved c =
    let place = c.args.place in
    elim c.if-kid-place.branch [
      | then-kid-place w ↦
          subst (λ (masks : List ℕ). AreKidsWidened c.args.kids.now place c.args.behind c.args.masks.now masks (c.loop-k.k + 1))
          (sym w.masks-is)
          (widened_more c.args.kids.now place c.args.behind c.args.masks.now c.loop-k.masks c.loop-k.k _ c.loop-k.invariant
          (omega arith))
      | else-kid-place w ↦
          subst (λ (masks : List ℕ). AreKidsWidened c.args.kids.now place c.args.behind c.args.masks.now masks (c.loop-k.k + 1))
          (sym w.masks-is)
          (widened_other c.args.kids.now place c.args.behind c.args.masks.now c.loop-k.masks c.loop-k.k _ c.loop-k.invariant
          c.loop-k-test.true w.if-kid-place.false)
    ]
