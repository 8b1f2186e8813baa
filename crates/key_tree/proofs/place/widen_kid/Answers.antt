use Rattle.std.proofs.Common.{ap, ◌∙◌, arith}
use Rattle.std.proofs.lemmas.List.{get_or_default}
use Rattle.key_tree.specs.declared.kid.Kid.{Kid}
use Rattle.key_tree.proofs.KidMaskLemmas.{widened_at}
use Rattle.key_tree.proofs.place.widen_kid.Goals as goal

pub returns-then-kids-at : goal.returns-then-kids-at
returns-then-kids-at c =
    widened_at c.args.kids.now c.args.place c.args.behind c.args.masks.now c.args.at 0 c.requires.apart
    (omega (arith, c.if-at-kids.true, c.requires.masks)) c.if-at-kids.true
    (λ d. ap (λ (x : Kid). x.place) (get_or_default c.args.kids.now c.args.at d _ c.if-at-kids.true) ∙ c.if-kids-at.true)
