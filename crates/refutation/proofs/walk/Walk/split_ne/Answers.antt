use Rattle.std.proofs.Common.{◌∙◌}
use Rattle.refutation.specs.Facts.{OnFirst-from}
use Rattle.refutation.proofs.WalkLemmas.{walk-split_ne}
use Rattle.refutation.proofs.walk.Walk.split_ne.Goals as goal

pub returns : goal.returns
returns c =
    OnFirst-from _ _ (λ box rest h. walk-split_ne c.self.inside.open c.self.inside.path.items c.push.new.self.items
    c.self.inside.bounds c.self.inside.sides.items c.push-2.new.self.items box rest c.args.atom
    (c.in_ok-push.ensures {u = tt}).items (c.in_ok-push-2.ensures {u = tt}).items (c.self.view_is ∙ h))
